-- A job by value. After rules 1 to 6 every number of its columns is a small one, and the job is held in arrays of 16 and 32 places; the
-- places past its tasks and channels hold 0.
use Rattle.std.specs.Prelude.{◌≡◌, Bool, true, List, ℕ, zero, suc, ◌+◌, ◌≤◌, ◌<◌, eqb, ℤ, pos, nat_abs, length, get_or}
use mir.Val.{bool_byte}
use Rattle.kinds.specs.Kinds.{within}
use Rattle.job.specs.Tests.{filled}
use Rattle.job.specs.Columns.{Columns, number_of, Bytes}
use Rattle.job.specs.declared.Job.{Job}

-- a column in `size` places: its numbers as they are, or without their sign, which no number has that passed rules 3 and 6
abbrev pub numbers_in : ℕ → List ℤ → List ℤ
numbers_in size column = filled size (pos 0) (number_of column) (length column)

abbrev pub bytes_in : ℕ → List ℤ → List ℕ
bytes_in size column = filled size 0 (λ i. nat_abs (number_of column i)) (length column)

unfoldable pub job_of : Columns → Job
job_of J = record {
  kinds = bytes_in 16 J.kinds;
  a = numbers_in 16 J.a;
  b = numbers_in 16 J.b;
  tasks = length J.kinds;
  from = bytes_in 32 J.from;
  to = bytes_in 32 J.to;
  channels = length J.from;
}

-- columns whose numbers fit these places, as rules 1 to 6 give it
pub record Small (J : Columns) : Type 0 where
  pub few_kinds : length J.kinds ≤ 16
  pub few_a : length J.a ≤ 16
  pub few_b : length J.b ≤ 16
  pub few_from : length J.from ≤ 32
  pub few_to : length J.to ≤ 32
  pub kind_bytes : Bytes J.kinds
  pub from_bytes : Bytes J.from
  pub to_bytes : Bytes J.to

-- ---- reading it
abbrev pub kind_of : Job → ℕ → ℕ
kind_of job t = get_or job.kinds t 0

abbrev pub a_of : Job → ℕ → ℤ
a_of job t = get_or job.a t (pos 0)

abbrev pub b_of : Job → ℕ → ℤ
b_of job t = get_or job.b t (pos 0)

abbrev pub from_of : Job → ℕ → ℕ
from_of job c = get_or job.from c 0

abbrev pub to_of : Job → ℕ → ℕ
to_of job c = get_or job.to c 0

abbrev pub is_source : Job → ℕ → Bool
is_source job t = eqb (kind_of job t) 0

-- channel c leads into task t; leads out of it
abbrev pub is_input : Job → ℕ → ℕ → Bool
is_input job t c = eqb (to_of job c) t

abbrev pub is_output : Job → ℕ → ℕ → Bool
is_output job t c = eqb (from_of job c) t

-- how many of the channels below n are outputs of t: the place of channel n among them
unfoldable pub place_of : Job → ℕ → ℕ → ℕ
place_of job t zero = 0
place_of job t (suc i) = place_of job t i + bool_byte (is_output job t i)

-- what rules 1 to 6 give of a job by value: its numbers are indices of the arrays, and a source's b is no negative number
pub record JobSized (job : Job) : Type 0 where
  pub few_tasks : job.tasks ≤ 16
  pub few_channels : job.channels ≤ 32
  pub from_task : (c : ℕ) → c < job.channels → from_of job c < job.tasks
  pub to_task : (c : ℕ) → c < job.channels → to_of job c < job.tasks
  pub part_length : (t : ℕ) → t < job.tasks → is_source job t ≡ true → within (pos 0) (b_of job t) (pos 4096) ≡ true
