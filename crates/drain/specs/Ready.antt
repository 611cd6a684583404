-- Whether a step of 0 to 63 is possible, told by its parts: numbers, flags and columns. The definition of the drain asks the whole step
-- (`possible`); the code asks this. That the two agree is `can_is` of proofs/Steps.
use Rattle.std.specs.Prelude.{Bool, true, false, cond, not, ◌&&◌, ◌||◌, List, ℕ, zero, suc, ◌%◌, eqb, ltb, leb, ℤ, nat_abs, get_or, set, replicate, Option, Some, None}
use Rattle.channel.specs.declared.Channel.{Channel}
use Rattle.job.specs.declared.Job.{Job}
use Rattle.job.specs.Jobs.{kind_of, b_of}
use Rattle.run.specs.declared.Run.{Run}
use Rattle.run.specs.Runs.{no_channel}
use Rattle.run.specs.Fit.{channel_at, totals_at, count_at}
use Rattle.outputs.specs.Parts.{all_marked_by}
use Rattle.flat.specs.Columns.{head_of, is_barrier}

-- 14 "applies to a record, also one that the task will drop, and to a barrier that completes the task's marks. 17 applies to a record
-- only."
abbrev pub head_moves : List ℕ → List Bool → ℕ → ℕ → Bool → Bool → ℕ → Bool
head_moves to marked channels c barrier full received =
    cond barrier (cond full (not (all_marked_by to (set marked c true) channels (get_or to c 0))) true) (not full && ltb received 1048576)

-- 0 to 31: neither 11 nor 12 nor 13, and the head moves
unfoldable pub delivers_by : List ℕ → List Bool → ℕ → ℕ → ℕ → Bool → Bool → ℕ → Bool
delivers_by to marked channels c count barrier full received =
    cond (leb channels c) false
    (cond (eqb count 0) false
    (cond (get_or marked c false) false
    (head_moves to marked channels c barrier full received)))

-- "32 to 47: source (number - 32) ..", "48 to 63: source (number - 48) ..": both are the remainder by 16
abbrev pub source_of : ℕ → ℕ
source_of n = n % 16

-- neither 11 nor 14 nor 13
unfoldable pub acts_by : ℕ → Bool → ℕ → ℤ → ℕ → Bool → Bool → Bool
acts_by n there kind b received waits full =
    cond there (cond (eqb kind 0) (cond full false (cond (ltb n 48) (ltb received (nat_abs b)) waits)) false) false

-- the task that a step of 0 to 63 speaks of; a channel's to_task is below 16 in every job
abbrev pub task_by : List ℕ → ℕ → ℕ
task_by to n = cond (ltb n 32) (get_or to n 0 % 16) (source_of n)

-- the channel that it takes from, or 0
abbrev pub channel_by : ℕ → ℕ
channel_by n = cond (ltb n 32) n 0

-- the step is possible, by the tasks with a full output
unfoldable pub possible_in : Job → List Bool → Run → ℕ → Bool
possible_in job full run n =
    let t = task_by job.to n in
    cond (ltb n 32)
    (delivers_by job.to run.marked job.channels n (channel_at run n).count (is_barrier (head_of (channel_at run n))) (get_or full t false)
    (totals_at run.live t).count)
    (acts_by n (ltb t job.tasks) (kind_of job t) (b_of job t) (totals_at run.live t).count (ltb 0 (count_at run.waiting t)) (get_or full t
    false))

-- the tasks with a full output, channel c looked at as well
abbrev pub noted_by : List Bool → List ℕ → ℕ → ℕ → List Bool
noted_by full from c count = let t = get_or from c 0 in set full t (get_or full t false || leb 8 count)

-- one pass over the channels notes the tasks that have a full output
unfoldable pub noted_to : List Bool → List ℕ → List Channel → ℕ → List Bool
noted_to full from chans zero = full
noted_to full from chans (suc c) = noted_by (noted_to full from chans c) from c (get_or chans c no_channel).count

abbrev pub full_tasks : Job → Run → List Bool
full_tasks job run = noted_to (replicate 16 false) job.from run.channels job.channels

-- the number that a search of 64 found, if it found one
abbrev pub found : ℕ → Option ℕ
found n = cond (eqb n 64) None (Some n)
