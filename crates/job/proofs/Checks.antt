-- What the check hands on, by what lines 1 to 6 and lines 7 to 9 find.
use mathlib.Core.Path.{◌≡◌, refl, ap, ◌∙◌}
use mathlib.Core.Bool.{Bool, true, false, cond, true≢false}
use Rattle.std.specs.Prelude.{◌++◌}
use Prim.Native.Nat.{ℕ, zero, suc, ◌<◌}
use native.Mathlib.Omega.{arith}
use borrow.Author.Tests.{eq-eqb, ne_eqb, eqb-true, eqb-false}
use lib.Dec.{eqb}
use Rattle.std.specs.Prelude.{Result, Ok, Err, ⊤, is_ok, is_err}
use Rattle.job.specs.declared.Job.{Job}
use Rattle.job.specs.declared.fault.Fault.{Fault}
use Rattle.job.specs.Columns.{Columns}
use Rattle.job.specs.Jobs.{job_of}
use Rattle.job.specs.Faults.{line_of, fault_of, found}
use Rattle.job.specs.Rules.{column_faults, graph_faults, first_fault, job_answer, checked_of}
use Rattle.job.proofs.First.{first_on, first_here, first_most}

-- a check that finds nothing answers 0; one that finds a line, its number
pub none_found : (x : ℕ) → Ok tt ≡ found x → x ≡ 0
none_found x e = go (eqb x 0) refl
  where
    go : (b : Bool) → eqb x 0 ≡ b → x ≡ 0
    go true q = eqb-true x 0 q
    go false q = absurd (true≢false (ap is_ok (e ∙ ap (λ b. cond b (Ok tt) (Err (fault_of x))) q)))

abbrev fault_in : Fault → Result ⊤ Fault → Fault
fault_in other (Ok y) = other
fault_in other (Err fault) = fault

one_found : (x : ℕ) (fault : Fault) → Err fault ≡ found x → (x ≡ 0 → ⊥) × (fault ≡ fault_of x)
one_found x fault e = go (eqb x 0) refl
  where
    go : (b : Bool) → eqb x 0 ≡ b → (x ≡ 0 → ⊥) × (fault ≡ fault_of x)
    go true q = absurd (true≢false (ap is_err (e ∙ ap (λ b. cond b (Ok tt) (Err (fault_of x))) q)))
    go false q = (eqb-false x 0 q, ap (fault_in fault) (e ∙ ap (λ b. cond b (Ok tt) (Err (fault_of x))) q))

-- the line of a number 1 to 9 has that number
pub line_found : (n : ℕ) → 0 < n → n < 10 → line_of (fault_of n) ≡ n
line_found zero p l = absurd (omega arith)
line_found (suc zero) p l = refl
line_found (suc (suc zero)) p l = refl
line_found (suc (suc (suc zero))) p l = refl
line_found (suc (suc (suc (suc zero)))) p l = refl
line_found (suc (suc (suc (suc (suc zero))))) p l = refl
line_found (suc (suc (suc (suc (suc (suc zero)))))) p l = refl
line_found (suc (suc (suc (suc (suc (suc (suc zero))))))) p l = refl
line_found (suc (suc (suc (suc (suc (suc (suc (suc zero)))))))) p l = refl
line_found (suc (suc (suc (suc (suc (suc (suc (suc (suc zero))))))))) p l = refl
line_found (suc (suc (suc (suc (suc (suc (suc (suc (suc (suc n)))))))))) p l = absurd (omega arith)

module _ (J : Columns) where
  pub answer_here : (first_fault (column_faults J) 1 ≡ 0 → ⊥) → job_answer J ≡ first_fault (column_faults J) 1
  unfolding job_answer
  answer_here ne = first_here (column_faults J) (graph_faults (job_of J)) 1 ne

  pub answer_on : first_fault (column_faults J) 1 ≡ 0 → job_answer J ≡ first_fault (graph_faults (job_of J)) 7
  unfolding job_answer
  answer_on e = first_on (column_faults J) (graph_faults (job_of J)) 1 (omega arith) e

  refused : (x : ℕ) (fault : Fault) → job_answer J ≡ x → (x ≡ 0 → ⊥) → fault ≡ fault_of x → Err fault ≡ checked_of J
  unfolding checked_of
  refused x fault e ne q = simp (e, ne_eqb x 0 ne, q)

  pub column_refused : (fault : Fault) → Err fault ≡ found (first_fault (column_faults J) 1) → Err fault ≡ checked_of J
  column_refused fault e =
      let f = one_found _ fault e in
      refused _ fault (answer_here f.0) f.0 f.1

  pub graph_refused : (fault : Fault) → Ok tt ≡ found (first_fault (column_faults J) 1)
      → Err fault ≡ found (first_fault (graph_faults (job_of J)) 7) → Err fault ≡ checked_of J
  graph_refused fault p e =
      let f = one_found _ fault e in
      refused _ fault (answer_on (none_found _ p)) f.0 f.1

  pub accepted : Ok tt ≡ found (first_fault (column_faults J) 1) → Ok tt ≡ found (first_fault (graph_faults (job_of J)) 7)
      → Ok (job_of J) ≡ checked_of J
  unfolding checked_of
  accepted p q = simp (eq-eqb (job_answer J) 0 (answer_on (none_found _ p) ∙ none_found _ q))

  -- ---- what a check says that hands on a job, and one that hands on a line
  pub record Accepted (job : Job) : Type 0 where
    pub zero_is : job_answer J ≡ 0
    pub job_is : job ≡ job_of J

  pub record Refused (fault : Fault) : Type 0 where
    pub not_zero : job_answer J ≡ 0 → ⊥
    pub fault_is : fault ≡ fault_of (job_answer J)
    pub line_is : line_of fault ≡ job_answer J

  pub answer_most : job_answer J < 10
  unfolding job_answer
  answer_most = first_most (column_faults J ++ graph_faults (job_of J)) 1 (omega arith)

  checked_by : (b : Bool) → eqb (job_answer J) 0 ≡ b → checked_of J ≡ cond b (Ok (job_of J)) (Err (fault_of (job_answer J)))
  unfolding checked_of
  checked_by b q = ap (λ b. cond b (Ok (job_of J)) (Err (fault_of (job_answer J)))) q

  abbrev job_in : Job → Result Job Fault → Job
  job_in other (Ok job) = job
  job_in other (Err fault) = other

  abbrev line_in : Fault → Result Job Fault → Fault
  line_in other (Ok job) = other
  line_in other (Err fault) = fault

  pub checked_job : (job : Job) → Ok job ≡ checked_of J → Accepted job
  checked_job job e = go (eqb (job_answer J) 0) refl
    where
      go : (b : Bool) → eqb (job_answer J) 0 ≡ b → Accepted job
      go true q = record { zero_is = eqb-true (job_answer J) 0 q; job_is = ap (job_in job) (e ∙ checked_by true q) }
      go false q = absurd (true≢false (ap is_ok (e ∙ checked_by false q)))

  pub checked_line : (fault : Fault) → Err fault ≡ checked_of J → Refused fault
  checked_line fault e = go (eqb (job_answer J) 0) refl
    where
      go : (b : Bool) → eqb (job_answer J) 0 ≡ b → Refused fault
      go true q = absurd (true≢false (ap is_err (e ∙ checked_by true q)))
      go false q =
          let ne = eqb-false (job_answer J) 0 q in
          let is = ap (line_in fault) (e ∙ checked_by false q) in
          record {
            not_zero = ne;
            fault_is = is;
            line_is = ap line_of is ∙ line_found (job_answer J) (omega (arith, ne)) answer_most;
          }
