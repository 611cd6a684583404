-- The drain (document 01): "A drain takes a limit, any unsigned 32-bit number. A step is possible when it would answer 0 or 20. It does the
-- lowest-numbered possible step of 0 to 63, again and again. It answers 0 when nothing is left (parts read out, channels empty, no barrier
-- waiting, no snapshot under way) or 18 when the limit is spent and something is left, with the steps done. .. On another fitting run with no
-- possible step left and something left, it answers 19. Nothing left comes before 18, 18 before 19."
use Rattle.std.specs.Prelude.{Bool, cond, not, ◌&&◌, ◌||◌, List, ℕ, zero, suc, ◌+◌, eqb, ltb, ℤ, nat_abs}
use Rattle.job.specs.declared.Job.{Job}
use Rattle.job.specs.Tests.{some}
use Rattle.job.specs.Jobs.{kind_of, b_of}
use Rattle.run.specs.declared.Run.{Run}
use Rattle.run.specs.Fit.{channel_at, count_at}
use Rattle.step.specs.Step.{stepped, offset_of}
use Rattle.lists.specs.Lists.{is_done}
use Rattle.drain.specs.declared.Drained.{Drained}

-- ---- what is left: "parts read out, channels empty, no barrier waiting, no snapshot under way"
abbrev pub left_by : ℕ → ℤ → ℕ → Bool → Bool
left_by kind b received waits = eqb kind 0 && ltb received (nat_abs b) || waits

abbrev pub task_left : Job → Run → ℕ → Bool
task_left job run t = left_by (kind_of job t) (b_of job t) (offset_of run t) (ltb 0 (count_at run.waiting t))

unfoldable pub tasks_left : Job → Run → Bool
tasks_left job run = some (task_left job run) job.tasks

unfoldable pub channels_left : Job → Run → Bool
channels_left job run = some (λ c. not (eqb (channel_at run c).count 0)) job.channels

unfoldable pub some_left : Job → Run → Bool
some_left job run = tasks_left job run || channels_left job run || ltb 0 run.under_way

-- ---- "A step is possible when it would answer 0 or 20."
unfoldable pub possible : Job → List ℤ → List ℤ → Run → ℕ → Bool
possible job c v run n = is_done (stepped job c v run n).answer

-- the first of the k numbers from i on that passes, or the number after them
unfoldable pub first_from : ℕ → ℕ → (ℕ → Bool) → ℕ
first_from zero i test = i
first_from (suc k) i test = cond (test i) i (first_from k (i + 1) test)

-- "the lowest-numbered possible step of 0 to 63", or 64
unfoldable pub lowest : Job → List ℤ → List ℤ → Run → ℕ
lowest job c v run = first_from 64 0 (possible job c v run)

abbrev pub ended : ℕ → Run → ℕ → Drained
ended answer run steps = record { run = run; answer = answer; steps = steps }

-- with so many steps still allowed and so many done
unfoldable pub drained_of : Job → List ℤ → List ℤ → ℕ → ℕ → Run → Drained
drained_of job c v zero steps run = cond (some_left job run) (ended 18 run steps) (ended 0 run steps)
drained_of job c v (suc k) steps run =
    cond (some_left job run)
    (cond (eqb (lowest job c v run) 64) (ended 19 run steps)
    (drained_of job c v k (steps + 1) (stepped job c v run (lowest job c v run)).run))
    (ended 0 run steps)
