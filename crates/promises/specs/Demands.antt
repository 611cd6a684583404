-- 7 and 8. DEMANDS 2 AND 1, over any columns and any run of its type: the answers of every call, and what a step does. The words of the
-- step rules and of Algorithm 1 (`Refused`, `Received`, `Passed`, ..) stand in step/specs/Handlers.antt; `job_of J` is the job by value.
use Rattle.std.specs.Prelude.{◌≡◌, true, false, cond, List, [], ◌∷◌, ◌++◌, ◌↔◌, ℕ, ◌+◌, ◌-◌, ◌<◌, ◌≤◌, nat_abs, length, set}
use Rattle.tally.specs.declared.Record.{Record}
use Rattle.channel.specs.declared.Cargo.TheVariants.{Barrier, Record as Recorded}
use Rattle.channel.specs.declared.Channel.{Channel}
use Rattle.channel.specs.declared.Item.{Item}
use Rattle.channel.specs.Channels.{held, barrier, with_item, without_head}
use Rattle.job.specs.declared.Job.{Job}
use Rattle.job.specs.Columns.{Columns}
use Rattle.job.specs.Jobs.{job_of, b_of, to_of}
use Rattle.job.specs.Rules.{job_answer}
use Rattle.job.specs.Exact.{Exact}
use Rattle.direct.specs.Direct.{fault35, directed_of, refused_with}
use Rattle.run.specs.declared.Run.{Run}
use Rattle.run.specs.Runs.{fresh_run, with_waiting, with_live, without_half, with_last, with_under_way}
use Rattle.run.specs.Fit.{Fits, totals_at, count_at}
use Rattle.step.specs.Algorithm.{answered}
use Rattle.step.specs.Step.{offset_of, next_record}
use Rattle.step.specs.Handlers.{Head, Source, Open, Full, Completes, Refused, HeadTaken, Received, Marked, Passed, Sealed}
use Rattle.drain.specs.declared.Drained.{Drained}
use Rattle.lists.specs.Lists.{is_done}
use Rattle.drain.specs.Drains.{some_left, ended}
use Rattle.station.specs.Entries.{entry, step_on, steps_on, drain_on}
use Rattle.promises.specs.Grown.{after_steps, over_steps}

-- how a drain ends: "Nothing left comes before 18, 18 before 19"
pub data Ends (J : Columns) (limit : ℕ) (d : Drained) : Type 0 where
  nothing_left : some_left (job_of J) d.run ≡ false → d.steps ≤ limit → d.answer ≡ 0 → Ends J limit d
  spent : some_left (job_of J) d.run ≡ true → d.steps ≡ limit → d.answer ≡ 18 → Ends J limit d
  stuck : some_left (job_of J) d.run ≡ true → d.steps < limit
      → ((n : ℕ) → n < 64 → is_done (step_on J d.run n).answer ≡ false) → d.answer ≡ 19 → Ends J limit d

-- 8. DEMAND 1 (`demand_1`): every call answers a number of the table, refuses exactly where the table says, and "each refusal returns its
-- number and the run as it came". A step on a lent run answers as `step_on`; a fresh run is never refused
pub record Demand1 (J : Columns) (run : Run) : Type 0 where
  -- demand 2's first half: "given exactly when", number by number (job/specs/Exact.antt)
  pub check : (job_answer J ≤ 9) × Exact J
  -- "Every other call on a run checks 1 to 9 first, then: 16"
  pub job_first : (job_answer J ≡ 0 → ⊥) → entry J run ≡ job_answer J
  pub then_16 : job_answer J ≡ 0 → ((entry J run ≡ 0) ↔ Fits (job_of J) run) × ((entry J run ≡ 16) ↔ (Fits (job_of J) run → ⊥))
  -- "a list of steps or a drain that meets 1 to 9 or 16 does no step and reports zero counts"
  pub shut : (entry J run ≡ 0 → ⊥) → (n limit : ℕ) (ns : List ℕ)
      → (step_on J run n ≡ answered (entry J run) run) × (drain_on J run limit ≡ ended (entry J run) run 0)
      × (steps_on J run ns ≡ record { run = run; answer = entry J run; done = 0; refused = 0 })
  pub step_refused : entry J run ≡ 0 → (n k : ℕ) → Refused (job_of J) run n k → step_on J run n ≡ answered k run
  pub step_done : entry J run ≡ 0 → (n : ℕ) → ((k : ℕ) → Refused (job_of J) run n k → ⊥) → is_done (step_on J run n).answer ≡ true
  pub list : entry J run ≡ 0 → (ns : List ℕ)
      → ((steps_on J run ns).answer ≡ 0) × ((steps_on J run ns).done + (steps_on J run ns).refused ≡ length ns)
  pub drain : entry J run ≡ 0 → (limit : ℕ) → Ends J limit (drain_on J run limit)
  -- "checks 1 to 9, then answers 35 ..; a refusal gives zero totals"
  pub direct_job : (job_answer J ≡ 0 → ⊥) → (counts : List ℕ) → directed_of J counts ≡ refused_with (job_answer J)
  pub direct_35 : job_answer J ≡ 0 → (counts : List ℕ) → fault35 (job_of J) counts ≡ true → directed_of J counts ≡ refused_with 35
  pub direct_0 : job_answer J ≡ 0 → (counts : List ℕ) → fault35 (job_of J) counts ≡ false → (directed_of J counts).answer ≡ 0

-- 8, the calls on one channel (`channel_calls`), whose array has its 8 places: "A channel that claims more than 8 items answers 16, adding
-- to 8 items 14, taking from none 13, each with the channel as it came and, for taking, a barrier"; else first in, first out
pub record ChannelCalls (ch : Channel) (x : Item) : Type 0 where
  pub add_16 : 8 < ch.count → with_item ch x ≡ record { channel = ch; answer = 16 }
  pub add_14 : ch.count ≡ 8 → with_item ch x ≡ record { channel = ch; answer = 14 }
  pub add_0 : ch.count < 8 → ((with_item ch x).answer ≡ 0) × (held (with_item ch x).channel ≡ held ch ++ (x ∷ []))
  pub take_16 : 8 < ch.count → without_head ch ≡ record { channel = ch; item = barrier; answer = 16 }
  pub take_13 : ch.count ≡ 0 → without_head ch ≡ record { channel = ch; item = barrier; answer = 13 }
  pub take_0 : 0 < ch.count → ch.count ≤ 8
      → ((without_head ch).answer ≡ 0) × (held ch ≡ (without_head ch).item ∷ held (without_head ch).channel)

-- 7. DEMAND 2 (`demand_2`), for a call that is admitted: a step that no rule refuses does what Algorithm 1's two handlers do on the task's
-- own channels (`HeadTaken`, then ..); a source handles the record that it reads and its waiting barrier alike; a list is its steps
module _ (J : Columns) (run : Run) where
  abbrev job : Job
  job = job_of J

  pub record Demand2 : Type 0 where
    pub receive_record : (n : ℕ) (r : Record) → Open job run n → Head run n (Recorded r) → (Full job run (to_of job n) → ⊥)
        → (totals_at run.live (to_of job n)).count < 1048576
        → ((step_on J run n).answer ≡ 0)
        × (x : Run) × HeadTaken job run x n (Recorded r) × Received job x (step_on J run n).run (to_of job n) r
    pub receive_barrier : (n : ℕ) → Open job run n → Head run n Barrier → (Completes job run n → ⊥)
        → ((step_on J run n).answer ≡ 0) × (x : Run) × HeadTaken job run x n Barrier × Marked job x (step_on J run n).run n
    pub pass_barrier : (n : ℕ) → Open job run n → Head run n Barrier → Completes job run n → (Full job run (to_of job n) → ⊥)
        → (x y : Run) × HeadTaken job run x n Barrier × Passed job x y (to_of job n) × Sealed job y (step_on J run n)
    pub read : (t : ℕ) → Source job t → offset_of run t < nat_abs (b_of job t) → (Full job run t → ⊥)
        → ((step_on J run (32 + t)).answer ≡ 0)
        × Received job run (step_on J run (32 + t)).run t (next_record job J.cylinders J.values run t)
    pub send_barrier : (t : ℕ) → Source job t → 0 < count_at run.waiting t → (Full job run t → ⊥)
        → (y : Run) × Passed job (with_waiting (set run.waiting t (count_at run.waiting t - 1)) run) y t
        × Sealed job y (step_on J run (48 + t))
    pub begin : run.under_way ≡ 0
        → (w : List ℕ) × (step_on J run 64 ≡ answered 0 (with_under_way 1 (without_half (with_waiting w run))))
        × ((t : ℕ) → Source job t → count_at w t ≡ 1)
    -- "Live totals become those of the last complete snapshot, or all zero if there is none"; it stays, and all else is as in a fresh run
    pub cut : step_on J run 65
        ≡ answered 0 (with_last run.last run.complete (with_live (cond run.complete run.last fresh_run.live) fresh_run))
    -- "A list of steps is done in order; a refused step is counted and the next is tried": it is its steps, one call after another
    pub list : (ns : List ℕ) → ((steps_on J run ns).run ≡ after_steps J run ns) × ((steps_on J run ns).done ≡ over_steps J (λ run k. 1) run ns)
