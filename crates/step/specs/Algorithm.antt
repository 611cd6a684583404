-- Algorithm 1 of source document 001 (section 4.2), on bounded first-in first-out channels, with the listing's line numbers. The listing
-- sends the barrier before storing the state, its prose after; "here both are one step" (document 01). `rest` is the channel without its
-- head, which the caller has looked at.
--   upon receive barrier:  8, 9    blocked_inputs := blocked_inputs ∪ {input}; block input
--                          10      if blocked_inputs = inputs then
--                          11      blocked_inputs := ∅
--                          12, 13  broadcast barrier on outputs; snapshot state
--                          14, 15  unblock each input
--   upon receive msg:      18, 19  {state', out_records} := udf(msg, state); state := state'
--                          20, 21  send each out_record on its output
use Rattle.std.specs.Prelude.{◌≡◌, refl, true, cond, ◌&&◌, ℕ, ◌+◌, ◌-◌, ltb, leb, set}
use Rattle.tally.specs.declared.Record.{Record}
use Rattle.tally.specs.Totals.{with_value}
use Rattle.channel.specs.declared.Cargo.TheVariants.{Barrier, Record as Recorded}
use Rattle.channel.specs.declared.Channel.{Channel}
use Rattle.job.specs.declared.Job.{Job}
use Rattle.run.specs.declared.Run.{Run}
use Rattle.run.specs.Runs.{with_channels, with_marked, with_live, with_half, with_last, with_under_way, without_half}
use Rattle.run.specs.Fit.{totals_at, count_at}
use Rattle.outputs.specs.Outputs.{some_full, all_marked, all_stored, unmarked, put_all}
use Rattle.step.specs.declared.Stepped.{Stepped}

abbrev pub answered : ℕ → Run → Stepped
answered n run = record { run = run; answer = n }

-- "if a snapshot is under way and every task has stored, it becomes the last complete one, the half-taken totals are emptied and none is
--  under way"
abbrev pub sealed : Run → Run
sealed run = with_under_way 0 (without_half (with_last run.half true run))

unfoldable pub completed : Job → Run → Stepped
completed job run = cond (ltb 0 run.under_way && all_stored job run.stored) (answered 20 (sealed run)) (answered 0 run)

-- which of those under way a task stores next: the first that it has not stored, and the last where it has stored them all, as may be for
-- a stray barrier. With one under way at most that is the one with the number 0
unfoldable pub turn_of : ℕ → ℕ → ℕ
turn_of stored under = cond (ltb stored under) stored (under - 1)

pub turns : (turn_of 0 1 ≡ 0) × (turn_of 1 1 ≡ 0) × (turn_of 0 0 ≡ 0) × (turn_of 1 0 ≡ 0) × (turn_of 2 4 ≡ 2) × (turn_of 4 4 ≡ 3)
unfolding turn_of
turns = (refl, refl, refl, refl, refl, refl)

-- 12, 13: the task's totals are stored in the half-taken snapshot, and a barrier goes on every output
unfoldable pub stored_by : Job → Run → ℕ → Run
stored_by job run t =
    with_channels (put_all job t Barrier run.channels)
    (with_half (set run.half t (totals_at run.live t))
    (set run.stored t (turn_of (count_at run.stored t) run.under_way + 1)) run)

-- 7 to 15, at task t for a barrier that came over channel c
unfoldable pub barrier_received : Job → Run → ℕ → ℕ → Channel → Stepped
barrier_received job run t c rest =
    cond (all_marked job (set run.marked c true) t)
    (cond (some_full job run.channels t) (answered 14 run)
    (completed job
    (stored_by job (with_marked (unmarked job (set run.marked c true) t) (with_channels (set run.channels c rest) run)) t)))
    (answered 0 (with_marked (set run.marked c true) (with_channels (set run.channels c rest) run)))

-- 18 to 21, at task t for a record: it updates the totals, "then is sent by the kind's rule"
unfoldable pub taken_in : Job → Run → ℕ → Record → Run
taken_in job run t r =
    with_channels (put_all job t (Recorded r) run.channels)
    (with_live (set run.live t (with_value (totals_at run.live t) r.value)) run)

-- 18 to 21 for a record that came over channel c: "14 applies to a record, also one that the task will drop"; "17 .. to a record only"
unfoldable pub record_received : Job → Run → ℕ → ℕ → Record → Channel → Stepped
record_received job run t c r rest =
    cond (some_full job run.channels t) (answered 14 run)
    (cond (leb 1048576 (totals_at run.live t).count) (answered 17 run)
    (answered 0 (taken_in job (with_channels (set run.channels c rest) run) t r)))
