-- The call `direct` at one count for each source that is at most its b: it is not refused, and its totals are any 16 totals that `laws`
-- has for direct evaluation at these counts (`directed_is`).
use mathlib.Core.Path.{◌≡◌, refl, sym, ap, ap₂, ◌∙◌}
use mathlib.Core.Bool.{Bool, true, false, cond, not, ◌||◌, true≢false}
use mathlib.Core.List.{List}
use Prim.Native.Nat.{ℕ, zero, suc, ◌<◌, ◌≤◌}
use native.Mathlib.Omega.{arith}
use borrow.Author.Tests.{eq-eqb, le-ltb}
use lib.Dec.{eqb, ltb}
use lib.IntN.{nat_abs}
use lib.ListN.{length, get_or}
use Rattle.laws.specs.Below.{tab}
use Rattle.laws.specs.Invariant.{direct_at}
use Rattle.laws.specs.Accepted.{Accepted}
use Rattle.laws.proofs.Below.{length_tab}
use Rattle.tally.specs.declared.Totals.{Totals}
use Rattle.tally.specs.Totals.{no_totals}
use Rattle.tally.proofs.Fold.{encode}
use Rattle.job.specs.Tests.{some}
use Rattle.job.specs.Columns.{Columns}
use Rattle.job.specs.Jobs.{job_of, b_of, is_source}
use Rattle.job.specs.Rules.{job_answer}
use Rattle.job.proofs.Tests.{some_one}
use Rattle.direct.specs.Direct.{count_of, bad_count, fault35, refused_with, totals_of_all, directed_of}
use Rattle.run.specs.Fit.{TotalsFit, totals_at}
use Rattle.promises.specs.Grown.{counts_for}
use Rattle.promises.proofs.Grows.{the_job, law_job}
use Rattle.promises.proofs.Evaluated.{accepted, direct_is, totals_are}

pub tab_at : {A : Type 0} (n : ℕ) (f : ℕ → A) (d : A) (i : ℕ) → i < n → get_or (tab n f) i d ≡ f i
tab_at zero f d i l = absurd (omega arith)
tab_at (suc n) f d zero l = refl
tab_at (suc n) f d (suc i) l = tab_at n (λ j. f (suc j)) d i (omega arith)

pub none_some : (p : ℕ → Bool) (n : ℕ) → ((i : ℕ) → i < n → p i ≡ false) → some p n ≡ false
none_some p n h = go (some p n) refl
  where
    go : (b : Bool) → some p n ≡ b → b ≡ false
    go true e = let w = some_one p n e in absurd (true≢false (sym w.2 ∙ h w.0 w.1))
    go false e = refl

-- an accepted job is one for which `laws` makes its promises
pub law_accepted : (J : Columns) (ok : job_answer J ≡ 0) → Accepted (law_job J ok)
law_accepted J ok = accepted (job_of J) J.cylinders J.values (the_job J ok)

module _ (J : Columns) (ok : job_answer J ≡ 0) (counts : ℕ → ℕ)
    (few : (t : ℕ) → t < (job_of J).tasks → is_source (job_of J) t ≡ true → counts t ≤ nat_abs (b_of (job_of J) t)) where
  count_at : (t : ℕ) → t < (job_of J).tasks → count_of (counts_for J counts) t ≡ cond (is_source (job_of J) t) (counts t) 0
  count_at t l = tab_at (job_of J).tasks (λ t. cond (is_source (job_of J) t) (counts t) 0) 0 t l

  pub source_at : (t : ℕ) → t < (job_of J).tasks → is_source (job_of J) t ≡ true → count_of (counts_for J counts) t ≡ counts t
  source_at t l e = count_at t l ∙ ap (λ b. cond b (counts t) 0) e

  fine_count : (t : ℕ) → t < (job_of J).tasks → bad_count (job_of J) t (count_of (counts_for J counts) t) ≡ false
  fine_count t l = ap (bad_count (job_of J) t) (count_at t l) ∙ go (is_source (job_of J) t) refl
    where
      go : (b : Bool) → is_source (job_of J) t ≡ b
          → cond b (ltb (nat_abs (b_of (job_of J) t)) (cond b (counts t) 0)) (not (eqb (cond b (counts t) 0) 0)) ≡ false
      go true e = le-ltb (nat_abs (b_of (job_of J) t)) (counts t) (few t l e)
      go false e = refl

  not_35 : fault35 (job_of J) (counts_for J counts) ≡ false
  unfolding fault35
  not_35 =
      ap₂ (λ a b. not a || b) (eq-eqb _ _ (length_tab (job_of J).tasks (λ t. cond (is_source (job_of J) t) (counts t) 0)))
      (none_some (λ t. bad_count (job_of J) t (count_of (counts_for J counts) t)) (job_of J).tasks fine_count)

  -- 16 totals of which laws says that they are direct evaluation's
  pub directed_is : (l : List Totals) → length l ≡ 16
      → ((u : ℕ) → u < (job_of J).tasks → encode (totals_at l u) ≡ direct_at (law_job J ok) counts u)
      → ((u : ℕ) → u < (job_of J).tasks → TotalsFit (job_of J) u (totals_at l u))
      → ((u : ℕ) → (job_of J).tasks ≤ u → u < 16 → totals_at l u ≡ no_totals)
      → directed_of J (counts_for J counts) ≡ record { totals = l; answer = 0 }
  unfolding directed_of
  directed_is l n same fit past =
      ap₂ (λ a b. cond a (cond b (refused_with 35) (record { totals = all; answer = 0 })) (refused_with (job_answer J)))
      (eq-eqb (job_answer J) 0 ok) not_35
      ∙ ap (λ (x : List Totals). record { totals = x; answer = 0 })
      (totals_are (job_of J) J.cylinders J.values (the_job J ok) (counts_for J counts) few_counts l n
      (λ u lu. same u lu ∙ direct_is (job_of J) J.cylinders J.values (the_job J ok) (counts_for J counts) few_counts counts
      (λ t lt e. sym (source_at t lt e)) u lu)
      (λ u lu. record { least_0 = λ e. ((fit u lu).empty e).0; greatest_0 = λ e. ((fit u lu).empty e).1 }) past)
    where
      all : List Totals
      all = totals_of_all (job_of J) J.cylinders J.values (counts_for J counts)

      few_counts : (t : ℕ) → t < (job_of J).tasks → is_source (job_of J) t ≡ true → count_of (counts_for J counts) t ≤ nat_abs (b_of (job_of J) t)
      few_counts t lt e = omega (arith, source_at t lt e, few t lt e)
