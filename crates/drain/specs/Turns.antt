-- Steps done one after another: where a drain of the run stands when they have been done.
use Rattle.std.specs.Prelude.{◌≡◌, Bool, true, false, cond, ◌||◌, List, ℕ, ◌-◌, ◌≤◌, eqb, ℤ, Option, Some, None}
use Rattle.job.specs.declared.Job.{Job}
use Rattle.run.specs.declared.Run.{Run}
use Rattle.run.specs.Fit.{Fits}
use Rattle.drain.specs.Drains.{lowest, drained_of}

-- the drain that goes on from `now` ends as the one that went on from the run
pub record Goes (job : Job) (cs vs : List ℤ) (run : Run) (limit start steps : ℕ) (now : Run) : Type 0 where
  pub within : steps ≤ limit
  pub since : start ≤ steps
  pub fits : Fits job now
  pub rest : drained_of job cs vs (limit - steps) steps now ≡ drained_of job cs vs (limit - start) start run

-- no step is possible, or the limit is spent
abbrev pub is_over : Job → List ℤ → List ℤ → ℕ → ℕ → Run → Bool
is_over job cs vs limit steps now = eqb (lowest job cs vs now) 64 || eqb steps limit

-- it is over, or the step of this number is next
abbrev pub Stops : Job → List ℤ → List ℤ → ℕ → ℕ → Run → Option ℕ → Type 0
Stops job cs vs limit steps now None = is_over job cs vs limit steps now ≡ true
Stops job cs vs limit steps now (Some n) = (n ≡ lowest job cs vs now) × (is_over job cs vs limit steps now ≡ false)

pub record Came (job : Job) (cs vs : List ℤ) (run : Run) (limit start steps : ℕ) (next : Option ℕ) (now : Run) : Type 0 where
  pub goes : Goes job cs vs run limit start steps now
  pub stops : Stops job cs vs limit steps now next

-- "Nothing left comes before 18, 18 before 19."
abbrev pub last_answer : Bool → Bool → ℕ
last_answer left spent = cond left (cond spent 18 19) 0
