-- The step rules of document 01, by the step's number, refusals in the order of the text; "each refusal returns its number and the run as it
-- came".
--   0 to 31   deliver the head of that channel: 11, 12, 13, 14, 17
--   32 to 47  source (number - 32) reads its next record: 11, 13, 14
--   48 to 63  source (number - 48) sends its waiting barrier: 11, 13, 14
--   64        begin a snapshot: 15
--   65        cut: nothing but 1 to 9 and 16 refuses it
--   66 on     11
use Rattle.std.specs.Prelude.{Bool, false, cond, not, ◌||◌, List, ℕ, ◌+◌, ◌-◌, eqb, ltb, leb, ℤ, nat_abs, set, replicate}
use Rattle.tally.specs.declared.Record.{Record}
use Rattle.tally.specs.declared.Totals.{Totals}
use Rattle.tally.specs.Totals.{no_totals}
use Rattle.channel.specs.declared.Cargo.{Cargo}
use Rattle.channel.specs.declared.Cargo.TheVariants.{Barrier, Record as Recorded}
use Rattle.channel.specs.declared.Channel.{Channel}
use Rattle.channel.specs.declared.Taken.{Taken}
use Rattle.channel.specs.Channels.{empty_channel, without_head}
use Rattle.job.specs.declared.Job.{Job}
use Rattle.job.specs.Columns.{record_at}
use Rattle.job.specs.Jobs.{a_of, b_of, to_of, is_source}
use Rattle.run.specs.declared.Run.{Run}
use Rattle.run.specs.Runs.{with_channels, with_marked, with_waiting, with_live, without_half, with_under_way}
use Rattle.run.specs.Fit.{channel_at, totals_at, flag_at, count_at}
use Rattle.outputs.specs.Outputs.{some_full, sources_wait}
use Rattle.step.specs.Algorithm.{answered, completed, stored_by, barrier_received, taken_in, record_received}
use Rattle.step.specs.declared.Stepped.{Stepped}

-- ---- 0 to 31: deliver the head of channel c
abbrev pub with_cargo : Job → Run → ℕ → Cargo → Channel → Stepped
with_cargo job run c Barrier rest = barrier_received job run (to_of job c) c rest
with_cargo job run c (Recorded r) rest = record_received job run (to_of job c) c r rest

-- taking the head answers 0, or 13 where nothing is there
unfoldable pub with_taken : Job → Run → ℕ → Taken → Stepped
with_taken job run c got = cond (eqb got.answer 0) (with_cargo job run c got.item.cargo got.channel) (answered got.answer run)

unfoldable pub delivered : Job → Run → ℕ → Stepped
delivered job run c =
    cond (leb job.channels c) (answered 11 run)
    (cond (flag_at run.marked c) (answered 12 run)
    (with_taken job run c (without_head (channel_at run c))))

-- ---- 32 to 47: source t reads its next record. "A waiting barrier does not prevent it."
-- 11 "for a channel or task the job lacks, and for a task that is no source"
unfoldable pub is_no_source : Job → ℕ → Bool
is_no_source job t = leb job.tasks t || not (is_source job t)

-- a source's count is its offset within its part
abbrev pub offset_of : Run → ℕ → ℕ
offset_of run t = (totals_at run.live t).count

unfoldable pub next_record : Job → List ℤ → List ℤ → Run → ℕ → Record
next_record job c v run t = record_at c v (nat_abs (a_of job t) + offset_of run t)

unfoldable pub source_read : Job → List ℤ → List ℤ → Run → ℕ → Stepped
source_read job c v run t =
    cond (is_no_source job t) (answered 11 run)
    (cond (leb (nat_abs (b_of job t)) (offset_of run t)) (answered 13 run)
    (cond (some_full job run.channels t) (answered 14 run)
    (answered 0 (taken_in job run t (next_record job c v run t)))))

-- ---- 48 to 63: source t sends its waiting barrier; "a source does so when it sends its waiting barrier"
unfoldable pub barrier_sent : Job → Run → ℕ → Stepped
barrier_sent job run t =
    cond (is_no_source job t) (answered 11 run)
    (cond (eqb (count_at run.waiting t) 0) (answered 13 run)
    (cond (some_full job run.channels t) (answered 14 run)
    (completed job (stored_by job (with_waiting (set run.waiting t (count_at run.waiting t - 1)) run) t))))

-- ---- 64: "every source gets a waiting barrier and earlier half-taken totals are cleared. Refusal: 15."
unfoldable pub begun : Job → Run → Stepped
begun job run =
    cond (leb 1 run.under_way) (answered 15 run)
    (answered 0 (with_under_way 1 (without_half (with_waiting (sources_wait job run.under_way run.waiting) run))))

-- ---- 65: "Live totals become those of the last complete snapshot, or all zero if there is none. Channels, marks, waiting barriers and
-- half-taken totals are emptied; no snapshot is under way; the last complete one stays."
abbrev pub last_or_none : Run → List Totals
last_or_none run = cond run.complete run.last (replicate 16 no_totals)

unfoldable pub cut_off : Run → Run
cut_off run =
    with_under_way 0
    (without_half
    (with_waiting (replicate 16 0)
    (with_marked (replicate 32 false)
    (with_channels (replicate 32 empty_channel)
    (with_live (last_or_none run) run)))))

-- ---- the step
unfoldable pub stepped : Job → List ℤ → List ℤ → Run → ℕ → Stepped
stepped job c v run n =
    cond (ltb n 32) (delivered job run n)
    (cond (ltb n 48) (source_read job c v run (n - 32))
    (cond (ltb n 64) (barrier_sent job run (n - 48))
    (cond (eqb n 64) (begun job run)
    (cond (eqb n 65) (answered 0 (cut_off run))
    (answered 11 run)))))
