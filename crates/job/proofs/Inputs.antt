-- What it says of a job that line 7 does not hold: a source has no input, and every other task has one.
use mathlib.Core.Path.{◌≡◌, refl, sym, ap, ◌∙◌}
use mathlib.Core.Bool.{Bool, true, false, true≢false}
use Prim.Native.Nat.{ℕ, ◌<◌}
use borrow.Author.Tests.{not-false, eqb-true, eq-eqb}
use Rattle.job.specs.declared.Job.{Job}
use Rattle.job.specs.Jobs.{JobSized, to_of, is_source, is_input}
use Rattle.job.specs.Rules.{has_input, bad_input, fault7}
use Rattle.job.proofs.Tests.{some_none, some_one}

module _ (job : Job) (line7 : fault7 job ≡ false) where
  input_fine : (t : ℕ) → t < job.tasks → bad_input (is_source job t) (has_input job t) ≡ false
  unfolding fault7
  input_fine = some_none (λ t. bad_input (is_source job t) (has_input job t)) job.tasks line7

  pub source_alone : (t : ℕ) → t < job.tasks → is_source job t ≡ true → (c : ℕ) → c < job.channels → is_input job t c ≡ false
  unfolding has_input
  source_alone t lt e = some_none (is_input job t) job.channels (ap (λ s. bad_input s (has_input job t)) (sym e) ∙ input_fine t lt)

  pub other_input : (t : ℕ) → t < job.tasks → is_source job t ≡ false → (c : ℕ) × (c < job.channels) × (to_of job c ≡ t)
  unfolding has_input
  other_input t lt e =
      let has = not-false (has_input job t) (ap (λ s. bad_input s (has_input job t)) (sym e) ∙ input_fine t lt) in
      let x = some_one (is_input job t) job.channels has in
      (x.0, x.1, eqb-true (to_of job x.0) t x.2)

  pub no_source_input : JobSized job → (c : ℕ) → c < job.channels → is_source job (to_of job c) ≡ false
  no_source_input Z c l = go (is_source job (to_of job c)) refl
    where
      go : (b : Bool) → is_source job (to_of job c) ≡ b → b ≡ false
      go true e = absurd (true≢false (sym (eq-eqb (to_of job c) (to_of job c) refl) ∙ source_alone (to_of job c) (Z.to_task c l) e c l))
      go false e = refl
