-- What the admission of a call says: with answer 0 the job is accepted, the run fits, and the records fit, which is what the layers below ask.
use mathlib.Core.Path.{◌≡◌, refl, sym, ap, subst, ◌∙◌}
use mathlib.Core.List.{List}
use mathlib.Core.Bool.{Bool, true, false, cond, true≢false}
use Prim.Native.Nat.{ℕ, ◌<◌}
use native.Mathlib.Omega.{arith}
use borrow.Author.Tests.{eq-eqb, ne_eqb, eqb-true, eqb-false}
use lib.Dec.{eqb}
use lib.ListN.{length}
use Rattle.std.specs.Prelude.{Result, Ok, Err, is_ok, is_err}
use Rattle.job.specs.declared.fault.Fault.{Fault}
use Rattle.job.specs.declared.Job.{Job}
use Rattle.job.specs.Columns.{Columns, RecordsFit}
use Rattle.job.specs.Jobs.{job_of}
use Rattle.job.specs.Rules.{job_answer, checked_of}
use Rattle.job.proofs.Checks.{Accepted, checked_line, line_found, answer_most}
use Rattle.job.specs.Fits.{JobFits}
use Rattle.job.proofs.Fine.{fine4}
use Rattle.job.proofs.Exact.{all_off, fine_of}
use Rattle.job.proofs.Fits.{accepted_fits}
use Rattle.run.specs.declared.Run.{Run}
use Rattle.run.specs.Fit.{run_fits, Fits}
use Rattle.run.proofs.Clauses.{clauses}
use Rattle.step.specs.Algorithm.{answered}
use Rattle.step.specs.Step.{stepped}
use Rattle.lists.specs.Lists.{listed_to}
use Rattle.drain.specs.Drains.{ended, drained_of}
use Rattle.station.specs.declared.refusal.Refusal.{Refusal}
use Rattle.station.specs.declared.refusal.Refusal.TheVariants.{Faulty, DoesNotFit}
use Rattle.station.specs.Refusals.{number_of, refusal_of}
use Rattle.station.specs.Entries.{admitted_of, entry, step_on, steps_on, drain_on}

module _ (J : Columns) (run : Run) where
  -- ---- the number that a call answers before it does anything, by the check and by the fit
  pub entry_job : (job_answer J ≡ 0 → ⊥) → entry J run ≡ job_answer J
  entry_job ne = simp (ne_eqb (job_answer J) 0 ne)

  pub entry_by : (b : Bool) → job_answer J ≡ 0 → run_fits (job_of J) run ≡ b → entry J run ≡ cond b 0 16
  entry_by b z e = simp (eq-eqb (job_answer J) 0 z, e)

  entry_zero : entry J run ≡ 0 → (job_answer J ≡ 0) × (run_fits (job_of J) run ≡ true)
  entry_zero z = go (eqb (job_answer J) 0) refl (run_fits (job_of J) run) refl
    where
      go : (a : Bool) → eqb (job_answer J) 0 ≡ a → (f : Bool) → run_fits (job_of J) run ≡ f
          → (job_answer J ≡ 0) × (run_fits (job_of J) run ≡ true)
      go true e true q = (eqb-true (job_answer J) 0 e, q)
      go true e false q = absurd (omega (arith, simp (e, q) at z))
      go false e f q = absurd (eqb-false (job_answer J) 0 e (simp e at z))

  -- ---- what admission hands on
  fits_by : (b : Bool) {job : Job} → Accepted J job → run_fits job run ≡ b → entry J run ≡ cond b 0 16
  fits_by b A f = entry_by b A.zero_is (ap (λ (k : Job). run_fits k run) (sym A.job_is) ∙ f)

  pub admit_fits : {job : Job} → Accepted J job → run_fits job run ≡ true → Ok job ≡ admitted_of J run
  unfolding admitted_of
  admit_fits A f = ap Ok A.job_is ∙ simp (fits_by true A f)

  pub admit_16 : {job : Job} → Accepted J job → run_fits job run ≡ false → Err DoesNotFit ≡ admitted_of J run
  unfolding admitted_of
  admit_16 A f = simp (fits_by false A f)

  pub admit_refused : {fault : Fault} → Err fault ≡ checked_of J → Err (Faulty fault) ≡ admitted_of J run
  unfolding admitted_of
  admit_refused e =
      let R = checked_line J _ e in
      let few = answer_most J in
      simp (ne_eqb (job_answer J) 0 R.not_zero, ne_eqb (job_answer J) 16 (λ q. omega (arith, q, few)), R.fault_is)

  -- ---- for a call that was admitted: what the layers below ask
  pub record Admitted (job : Job) : Type 0 where
    pub zero_is : entry J run ≡ 0
    pub accepted : job_answer J ≡ 0
    pub job_is : job ≡ job_of J
    pub job_fits : JobFits (job_of J) (length J.cylinders)
    pub run_fits : Fits (job_of J) run
    pub records_fit : RecordsFit J.cylinders J.values

  admitted_by : (b : Bool) → eqb (entry J run) 0 ≡ b → admitted_of J run ≡ cond b (Ok (job_of J)) (Err (refusal_of (entry J run)))
  unfolding admitted_of
  admitted_by b q = ap (λ b. cond b (Ok (job_of J)) (Err (refusal_of (entry J run)))) q

  abbrev job_in : Job → Result Job Refusal → Job
  job_in other (Ok job) = job
  job_in other (Err refusal) = other

  abbrev refusal_in : Refusal → Result Job Refusal → Refusal
  refusal_in other (Ok job) = other
  refusal_in other (Err refusal) = refusal

  pub admitted : entry J run ≡ 0 → Admitted (job_of J)
  admitted z =
      let e = entry_zero z in
      let fits = accepted_fits J e.0 in
      record {
        zero_is = z;
        accepted = e.0;
        job_is = refl;
        job_fits = fits;
        run_fits = clauses (job_of J) fits.sends.sized run e.1;
        records_fit = fine4 J.cylinders J.values (fine_of J (λ j l. all_off J e.0 j (omega arith))).line4;
      }

  pub admitted_job : {job : Job} → Ok job ≡ admitted_of J run → Admitted job
  admitted_job {job} e = go (eqb (entry J run) 0) refl
    where
      go : (b : Bool) → eqb (entry J run) 0 ≡ b → Admitted job
      go true q = subst Admitted (sym (ap (job_in job) (e ∙ admitted_by true q))) (admitted (eqb-true (entry J run) 0 q))
      go false q = absurd (true≢false (ap is_ok (e ∙ admitted_by false q)))

  numbered_line : (n : ℕ) → 0 < n → n < 10 → number_of (refusal_of n) ≡ n
  numbered_line n p l = simp (ne_eqb n 16 (λ q. omega (arith, q, l)), line_found n p l)

  numbered : (entry J run ≡ 0 → ⊥) → number_of (refusal_of (entry J run)) ≡ entry J run
  numbered ne = go (eqb (job_answer J) 0) refl (run_fits (job_of J) run) refl
    where
      go : (a : Bool) → eqb (job_answer J) 0 ≡ a → (f : Bool) → run_fits (job_of J) run ≡ f
          → number_of (refusal_of (entry J run)) ≡ entry J run
      go true e true q = absurd (ne (entry_by true (eqb-true (job_answer J) 0 e) q))
      go true e false q = subst (λ (n : ℕ). number_of (refusal_of n) ≡ n) (sym (entry_by false (eqb-true (job_answer J) 0 e) q)) refl
      go false e f q =
          let no = eqb-false (job_answer J) 0 e in
          subst (λ (n : ℕ). number_of (refusal_of n) ≡ n) (sym (entry_job no)) (numbered_line (job_answer J) (omega (arith, no)) (answer_most J))

  -- for a call that was not: its number
  pub record Shut (refusal : Refusal) : Type 0 where
    pub not_zero : entry J run ≡ 0 → ⊥
    pub number_is : number_of refusal ≡ entry J run

  pub admitted_not : {refusal : Refusal} → Err refusal ≡ admitted_of J run → Shut refusal
  admitted_not {refusal} e = go (eqb (entry J run) 0) refl
    where
      go : (b : Bool) → eqb (entry J run) 0 ≡ b → Shut refusal
      go true q = absurd (true≢false (ap is_err (e ∙ admitted_by true q)))
      go false q =
          let ne = eqb-false (entry J run) 0 q in
          record { not_zero = ne; number_is = ap number_of (ap (refusal_in refusal) (e ∙ admitted_by false q)) ∙ numbered ne }

-- ---- what the layers below ask of an admitted call, and what they give
module _ (J : Columns) (run : Run) {job : Job} (A : Admitted J run job) where
  pub ready : JobFits job (length J.cylinders) × Fits job run × RecordsFit J.cylinders J.values
  ready = (
    subst (λ (k : Job). JobFits k (length J.cylinders)) (sym A.job_is) A.job_fits,
    subst (λ (k : Job). Fits k run) (sym A.job_is) A.run_fits,
    A.records_fit,
  )

  pub step_admitted : (n : ℕ) → stepped job J.cylinders J.values run n ≡ step_on J run n
  unfolding step_on
  step_admitted n = ap (λ (k : Job). stepped k J.cylinders J.values run n) A.job_is ∙ simp (eq-eqb (entry J run) 0 A.zero_is)

  pub steps_admitted : (numbers : List ℕ) → listed_to job J.cylinders J.values run numbers (length numbers) ≡ steps_on J run numbers
  unfolding steps_on
  steps_admitted numbers =
      ap (λ (k : Job). listed_to k J.cylinders J.values run numbers (length numbers)) A.job_is ∙ simp (eq-eqb (entry J run) 0 A.zero_is)

  pub drain_admitted : (limit : ℕ) → drained_of job J.cylinders J.values limit 0 run ≡ drain_on J run limit
  unfolding drain_on
  drain_admitted limit =
      ap (λ (k : Job). drained_of k J.cylinders J.values limit 0 run) A.job_is ∙ simp (eq-eqb (entry J run) 0 A.zero_is)

-- of one that was not: the number, the run as it came, and zero counts
module _ (J : Columns) (run : Run) {refusal : Refusal} (S : Shut J run refusal) {x : ℕ} (e : x ≡ number_of refusal) where
  pub step_refused : (n : ℕ) → answered x run ≡ step_on J run n
  unfolding step_on
  step_refused n = ap (λ (a : ℕ). answered a run) (e ∙ S.number_is) ∙ simp (ne_eqb (entry J run) 0 S.not_zero)

  pub steps_refused : (numbers : List ℕ) → record { run = run; answer = x; done = 0; refused = 0 } ≡ steps_on J run numbers
  unfolding steps_on
  steps_refused numbers =
      ap (λ (a : ℕ). record { run = run; answer = a; done = 0; refused = 0 }) (e ∙ S.number_is) ∙ simp (ne_eqb (entry J run) 0 S.not_zero)

  pub drain_refused : (limit : ℕ) → ended x run 0 ≡ drain_on J run limit
  unfolding drain_on
  drain_refused limit = ap (λ (a : ℕ). ended a run 0) (e ∙ S.number_is) ∙ simp (ne_eqb (entry J run) 0 S.not_zero)
