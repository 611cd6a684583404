-- The table of job answers (document 01): rules 7 to 9 over the job by value, and the answer as the first rule in order that fails.
-- A reader believes `Walk`, `WorstCounts` and the tests 1 to 7; that each number is given exactly when its line holds is `exact` in
-- proofs/Exact.antt, with `Walk` for line 8 and `WorstCounts` for line 9.
use Rattle.std.specs.Prelude.{Result, Ok, Err}
use Rattle.std.specs.Prelude.{◌≡◌, Bool, true, false, cond, ◌||◌, not, List, [], ◌∷◌, ◌++◌, ℕ, zero, suc, ◌+◌, ◌<◌, eqb, ltb, nat_abs, length, get_or, replicate}
use Rattle.job.specs.Tests.{some, every, sweeps}
use Rattle.job.specs.Columns.{Columns, fault1, fault2, fault3, fault4, fault5, fault6}
use Rattle.job.specs.Jobs.{job_of, b_of, from_of, to_of, is_source, is_input}
use Rattle.job.specs.declared.Job.{Job}
use Rattle.job.specs.declared.fault.Fault.{Fault}
use Rattle.job.specs.Faults.{fault_of}

-- ---- 7: "a source with an input, or another task with none"
unfoldable pub has_input : Job → ℕ → Bool
has_input job t = some (is_input job t) job.channels

abbrev pub bad_input : Bool → Bool → Bool
bad_input source input = cond source input (not input)

unfoldable pub fault7 : Job → Bool
fault7 job = some (λ t. bad_input (is_source job t) (has_input job t)) job.tasks

-- ---- 8: "some walk along one or more channels returns to its start"
pub data Walk (job : Job) : ℕ → ℕ → Type 0 where
  one : (c : ℕ) → c < job.channels → Walk job (from_of job c) (to_of job c)
  more : {t : ℕ} (c : ℕ) → c < job.channels → Walk job t (from_of job c) → Walk job t (to_of job c)

abbrev pub Returning : Job → Type 0
Returning job = (t : ℕ) × Walk job t t

-- computed: a task is struck when all its inputs come from struck tasks; after as many sweeps as there are tasks no more can be struck
abbrev pub struck_before : Job → List Bool → ℕ → ℕ → Bool
struck_before job struck t c = not (is_input job t c) || get_or struck (from_of job c) false

unfoldable pub strike : Job → List Bool → ℕ → Bool
strike job struck t = get_or struck t false || every (struck_before job struck t) job.channels

unfoldable pub struck_tasks : Job → List Bool
struck_tasks job = sweeps (strike job) (replicate 16 false) job.tasks job.tasks

unfoldable pub fault8 : Job → Bool
fault8 job = not (every (λ t. get_or (struck_tasks job) t false) job.tasks)

-- ---- 9: "a worst count above 1,048,576"
-- "For a source it is b. For any other task it is the sum, over its input channels, of the from-task's worst count."
unfoldable pub inflow : Job → (ℕ → ℕ) → ℕ → ℕ → ℕ
inflow job W t zero = 0
inflow job W t (suc c) = inflow job W t c + cond (is_input job t c) (W (from_of job c)) 0

pub record WorstCounts (job : Job) (W : ℕ → ℕ) : Type 0 where
  pub of_source : (t : ℕ) → t < job.tasks → is_source job t ≡ true → W t ≡ nat_abs (b_of job t)
  pub of_other : (t : ℕ) → t < job.tasks → is_source job t ≡ false → W t ≡ inflow job W t job.channels

pub record TooMany (job : Job) : Type 0 where
  pub worst : ℕ → ℕ
  pub counts : WorstCounts job worst
  pub task : ℕ
  pub is_task : task < job.tasks
  pub above : 1048576 < worst task

-- computed in sweeps as well; a number above the limit is kept as the limit and one, so that nothing wraps
unfoldable pub capped : ℕ → ℕ
capped x = cond (ltb 1048576 x) 1048577 x

abbrev pub brought_by : Job → List ℕ → ℕ → ℕ → ℕ
brought_by job w t c = cond (is_input job t c) (get_or w (from_of job c) 0) 0

unfoldable pub capped_inflow : Job → List ℕ → ℕ → ℕ → ℕ
capped_inflow job w t zero = 0
capped_inflow job w t (suc c) = capped (capped_inflow job w t c + brought_by job w t c)

unfoldable pub worst_anew : Job → List ℕ → ℕ → ℕ
worst_anew job w t = cond (is_source job t) (nat_abs (b_of job t)) (capped_inflow job w t job.channels)

unfoldable pub worst_counts : Job → List ℕ
worst_counts job = sweeps (worst_anew job) (replicate 16 0) job.tasks job.tasks

unfoldable pub fault9 : Job → Bool
fault9 job = some (λ t. ltb 1048576 (get_or (worst_counts job) t 0)) job.tasks

-- ---- the answer: the number of the first line that holds, 0 if none does
unfoldable pub first_fault : List Bool → ℕ → ℕ
first_fault [] k = 0
first_fault (fault ∷ faults) k = cond fault k (first_fault faults (suc k))

-- lines 1 to 6 are asked of the columns, lines 7 to 9 of the job by value
abbrev pub column_faults : Columns → List Bool
column_faults J =
    fault1 J.kinds J.a J.b
    ∷ fault2 J.from J.to
    ∷ fault3 J.kinds J.a J.b
    ∷ fault4 J.cylinders J.values
    ∷ fault5 J.kinds J.a J.b (length J.cylinders)
    ∷ fault6 J.from J.to (length J.kinds)
    ∷ []

abbrev pub graph_faults : Job → List Bool
graph_faults job = fault7 job ∷ fault8 job ∷ fault9 job ∷ []

unfoldable pub job_answer : Columns → ℕ
job_answer J = first_fault (column_faults J ++ graph_faults (job_of J)) 1

-- what the check hands on: the job by value where it is accepted, else the line
unfoldable pub checked_of : Columns → Result Job Fault
checked_of J = cond (eqb (job_answer J) 0) (Ok (job_of J)) (Err (fault_of (job_answer J)))
