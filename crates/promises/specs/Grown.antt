-- Grown runs, and what an onlooker counts of them: "a run grown from a fresh one by one accepted job on unchanged records, with cuts or
-- without" (document 01). A host calls `step` again and again with the same columns; the onlooker stands beside him and sees the steps'
-- numbers, their answers and the runs. Nothing here looks at how a step is done.
use Rattle.std.specs.Prelude.{Bool, false, cond, ◌&&◌, ◌||◌, List, [], ◌∷◌, ◌++◌, ℕ, ◌+◌, ◌-◌, eqb, ltb, length, take}
use Rattle.laws.specs.Received.{keep, flat}
use Rattle.laws.specs.Below.{bit, tab}
use Rattle.laws.specs.Onlooker.{first_of, rest_of}
use Rattle.laws.specs.Sums.{nat_mon, sum_n}
use Rattle.tally.specs.declared.Record.{Record}
use Rattle.channel.specs.declared.Cargo.{Cargo}
use Rattle.channel.specs.declared.Cargo.TheVariants.{Barrier, Record as Recorded}
use Rattle.channel.specs.declared.Item.{Item}
use Rattle.channel.specs.Channels.{held}
use Rattle.job.specs.Columns.{Columns}
use Rattle.job.specs.Jobs.{job_of, from_of, to_of, is_source, is_output}
use Rattle.job.specs.Graph.{over_channel, part_length}
use Rattle.direct.specs.Direct.{received_by}
use Rattle.run.specs.declared.Run.{Run}
use Rattle.run.specs.Runs.{fresh_run}
use Rattle.run.specs.Fit.{channel_at}
use Rattle.step.specs.Step.{offset_of, next_record}
use Rattle.lists.specs.Lists.{is_done}
use Rattle.station.specs.Entries.{step_on}

-- the run after some steps, done or refused, one call after another
unfoldable pub after_steps : Columns → Run → List ℕ → Run
after_steps J run [] = run
after_steps J run (k ∷ ks) = after_steps J (step_on J run k).run ks

-- A GROWN RUN
abbrev pub grown : Columns → List ℕ → Run
grown J ks = after_steps J fresh_run ks

-- ---- an onlooker who notes offsets, in a queue for each task. He sees of a step its number, its answer and the live counts of the run
-- that it finds
pub record Notes : Type 0 where
  -- each task's counts at its steps 48 + t, the oldest first, as far as no answer 20 has taken them
  pub sent : ℕ → List ℕ
  -- what the last answer 20 took, and whether there was one
  pub complete : ℕ → ℕ
  pub any : Bool

-- a source's count is put behind when its step 48 + t is done
abbrev pub queued_now : ℕ → ℕ → (ℕ → ℕ) → (ℕ → List ℕ) → ℕ → List ℕ
queued_now k answer counts sent t = sent t ++ keep (is_done answer && eqb k (48 + t)) (counts t ∷ [])

-- an answer 20 takes the first of every queue, and these are the complete snapshot's; a cut that is done empties the queues
abbrev pub noted : ℕ → ℕ → (ℕ → ℕ) → Notes → Notes
noted k answer counts h = record {
  sent = λ t.
      cond (eqb answer 20) (rest_of (queued_now k answer counts h.sent t))
      (cond (is_done answer && eqb k 65) [] (queued_now k answer counts h.sent t));
  complete = λ t. cond (eqb answer 20) (first_of (queued_now k answer counts h.sent t)) (h.complete t);
  any = h.any || eqb answer 20;
}

unfoldable pub notes_of : Columns → Run → List ℕ → Notes → Notes
notes_of J run [] h = h
notes_of J run (k ∷ ks) h = notes_of J (step_on J run k).run ks (noted k (step_on J run k).answer (offset_of run) h)

abbrev pub no_notes : Notes
no_notes = record { sent = λ t. []; complete = λ t. 0; any = false }

abbrev pub notes_at : Columns → List ℕ → Notes
notes_at J ks = notes_of J fresh_run ks no_notes

-- one count for each task, as direct evaluation takes them: of the sources' counts; of their whole parts
abbrev pub counts_for : Columns → (ℕ → ℕ) → List ℕ
counts_for J counts = tab (job_of J).tasks (λ t. cond (is_source (job_of J) t) (counts t) 0)

abbrev pub whole_parts : Columns → List ℕ
whole_parts J = counts_for J (part_length (job_of J))

-- ---- an onlooker who counts: for each step that is done a number, which may look at the run that the step finds, added up
unfoldable pub over_steps : Columns → (Run → ℕ → ℕ) → Run → List ℕ → ℕ
over_steps J f run [] = 0
over_steps J f run (k ∷ ks) = cond (is_done (step_on J run k).answer) (f run k) 0 + over_steps J f (step_on J run k).run ks

-- steps done, and snapshots begun
abbrev pub steps_done : Columns → List ℕ → ℕ
steps_done J ks = over_steps J (λ run k. 1) fresh_run ks

abbrev pub snapshots_begun : Columns → List ℕ → ℕ
snapshots_begun J ks = over_steps J (λ run k. bit (eqb k 64)) fresh_run ks

-- the records among some items
abbrev pub as_record : Cargo → List Record
as_record Barrier = []
as_record (Recorded r) = r ∷ []

abbrev pub records_of : List Item → List Record
records_of items = flat (λ x. as_record x.cargo) items

-- the record that step k brings to a task, and that task: the head of channel k to its to_task, or a source's next record to the source
abbrev pub brought : Columns → Run → ℕ → List Record
brought J run k =
    cond (ltb k 32) (records_of (take 1 (held (channel_at run k))))
    (cond (ltb k 48) (next_record (job_of J) J.cylinders J.values run (k - 32) ∷ []) [])

abbrev pub brought_to : Columns → ℕ → ℕ
brought_to J k = cond (ltb k 32) (to_of (job_of J) k) (k - 32)

-- records sent on channel c (what the task sends over it for what is brought, where c is one of its outputs), delivered from it, and in it
abbrev pub sent_on : Columns → List ℕ → ℕ → ℕ
sent_on J ks c =
    over_steps J (λ run k. length (keep (is_output (job_of J) (brought_to J k) c) (flat (over_channel (job_of J) c) (brought J run k)))) fresh_run
    ks

abbrev pub delivered_from : Columns → List ℕ → ℕ → ℕ
delivered_from J ks c = over_steps J (λ run k. cond (eqb k c) (length (records_of (take 1 (held (channel_at run c))))) 0) fresh_run ks

abbrev pub records_in : Run → ℕ → ℕ
records_in run c = length (records_of (held (channel_at run c)))

-- ---- what the formula counts: "records read in all", "records that direct evaluation sends over all channels", sources
abbrev pub records_read : Columns → ℕ
records_read J = sum_n nat_mon (job_of J).tasks (part_length (job_of J))

abbrev pub records_sent : Columns → ℕ
records_sent J =
    sum_n nat_mon (job_of J).channels
    (λ c. length (flat (over_channel (job_of J) c)
    (received_by (job_of J) J.cylinders J.values (whole_parts J) (from_of (job_of J) c))))

abbrev pub sources_of : Columns → ℕ
sources_of J = sum_n nat_mon (job_of J).tasks (λ t. bit (is_source (job_of J) t))
