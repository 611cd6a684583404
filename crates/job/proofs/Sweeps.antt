-- Sweeps over a list, each place anew from the list as it then stands: what each store keeps the sweeps keep; and where a place depends
-- on places of lower rank alone, as many sweeps as there are ranks bring every place to its value.
use mathlib.Core.Path.{◌≡◌, refl, sym, ap, ◌∙◌}
use mathlib.Core.Bool.{Bool, true, false}
use mathlib.Core.List.{List}
use Prim.Native.Nat.{ℕ, zero, suc, ◌<◌, ◌≤◌}
use native.Mathlib.Omega.{arith}
use borrow.Author.Tests.{eqb-true, eqb-false}
use lib.Dec.{eqb}
use lib.ListN.{length, get_or, set, length-set}
use lib.Seq.{get_or-set_same, get_or-set_other}
use Rattle.job.specs.Tests.{sweep, sweeps}

module _ {A : Type 0} (anew : List A → ℕ → A) (n : ℕ) where
  -- ---- what each store keeps
  module _ (P : List A → Type 0) (keeps : (l : List A) (t : ℕ) → t < n → P l → P (set l t (anew l t))) where
    sweep_keeps : (l : List A) → P l → (j : ℕ) → j ≤ n → P (sweep anew l j)
    unfolding sweep
    sweep_keeps l p zero h = p
    sweep_keeps l p (suc j) h = keeps (sweep anew l j) j (omega arith) (sweep_keeps l p j (omega arith))

    pub sweeps_keep : (l : List A) → P l → (k : ℕ) → P (sweeps anew l n k)
    unfolding sweeps
    sweeps_keep l p zero = p
    sweeps_keep l p (suc k) = sweep_keeps (sweeps anew l n k) (sweeps_keep l p k) n (omega arith)

  -- ---- values by rank
  module _ (d : A) (rank : ℕ → ℕ) (value : ℕ → A)
      (close : (l : List A) (t : ℕ) → t < n → ((u : ℕ) → u < n → rank u < rank t → get_or l u d ≡ value u) → anew l t ≡ value t) where
    -- the list is long enough, places of rank below k have their value, and so have those of rank k among the first j
    record Right (k j : ℕ) (l : List A) : Type 0 where
      long : n ≤ length l
      old : (t : ℕ) → t < n → rank t < k → get_or l t d ≡ value t
      new : (t : ℕ) → t < n → t < j → rank t < suc k → get_or l t d ≡ value t

    store_right : (k j : ℕ) (l : List A) → j < n → Right k j l → Right k (suc j) (set l j (anew l j))
    store_right k j l lj R = record {
      long = omega (arith, R.long, length-set l j (anew l j));
      old = λ t lt r. at t (eqb t j) refl (omega arith) (λ ne. R.old t lt r);
      new = λ t lt l₂ r. at t (eqb t j) refl r (λ ne. R.new t lt (omega arith) r);
    }
      where
        here : rank j < suc k → get_or (set l j (anew l j)) j d ≡ value j
        here r = get_or-set_same l j (anew l j) d (omega (arith, R.long)) ∙ close l j lj (λ u lu q. R.old u lu (omega arith))

        at : (t : ℕ) (b : Bool) → eqb t j ≡ b → rank t < suc k → ((t ≡ j → ⊥) → get_or l t d ≡ value t)
            → get_or (set l j (anew l j)) t d ≡ value t
        at t true e r other =
            let q : t ≡ j = eqb-true t j e in
            ap (λ i. get_or (set l j (anew l j)) i d) q ∙ here (omega (arith, ap rank q)) ∙ ap value (sym q)
        at t false e r other = get_or-set_other l j t (anew l j) d (eqb-false t j e) ∙ other (eqb-false t j e)

    sweep_right : (k : ℕ) (l : List A) → Right k 0 l → (j : ℕ) → j ≤ n → Right k j (sweep anew l j)
    unfolding sweep
    sweep_right k l R zero h = R
    sweep_right k l R (suc j) h = store_right k j (sweep anew l j) (omega arith) (sweep_right k l R j (omega arith))

    next_right : (k : ℕ) (l : List A) → Right k n l → Right (suc k) 0 l
    next_right k l R = record { long = R.long; old = λ t lt r. R.new t lt lt r; new = λ t lt l₂ r. absurd (omega arith) }

    sweeps_right : (l : List A) → n ≤ length l → (k : ℕ) → Right k 0 (sweeps anew l n k)
    unfolding sweeps
    sweeps_right l h zero = record { long = h; old = λ t lt r. absurd (omega arith); new = λ t lt l₂ r. absurd (omega arith) }
    sweeps_right l h (suc k) = next_right k _ (sweep_right k (sweeps anew l n k) (sweeps_right l h k) n (omega arith))

    -- AFTER k SWEEPS every place of rank below k has its value
    pub settled : (l : List A) → n ≤ length l → (k t : ℕ) → t < n → rank t < k → get_or (sweeps anew l n k) t d ≡ value t
    settled l h k t lt r = (sweeps_right l h k).old t lt r
