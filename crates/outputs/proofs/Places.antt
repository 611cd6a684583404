-- A loop that makes each place of a list anew: one turn of it, and what stands at each place afterwards.
use mathlib.Core.Path.{◌≡◌, refl, sym, ap, ap₂, ◌∙◌}
use mathlib.Core.Bool.{Bool, true, false, cond}
use mathlib.Core.List.{List}
use Prim.Native.Nat.{ℕ, zero, suc, ◌+◌, ◌<◌, ◌≤◌}
use native.Mathlib.Numerals.{add-one}
use native.Mathlib.Omega.{arith}
use borrow.Author.Tests.{eqb-true, eqb-false, ltb-false}
use lib.Dec.{eqb, ltb}
use lib.ListN.{length, get_or, set, length-set}
use lib.Seq.{get_or-set_same, get_or-set_other}
use Rattle.outputs.specs.Outputs.{at_most_of, each_place}

pub at_most : (n x : ℕ) → at_most_of n x ≤ n
at_most n x = go (ltb n x) refl
  where
    go : (b : Bool) → ltb n x ≡ b → cond b n x ≤ n
    go true e = omega arith
    go false e = ltb-false n x e

module _ {A : Type 0} (d : A) (f : ℕ → A → A) (l₀ : List A) where
  pub place_more : (i : ℕ) {l : List A} {x : A} → l ≡ each_place d f l₀ i → x ≡ f i (get_or l i d) → set l i x ≡ each_place d f l₀ (i + 1)
  unfolding each_place
  place_more i e q = rw add-one (ap₂ (λ l x. set l i x) e (q ∙ ap (λ l. f i (get_or l i d)) e))

  pub length_places : (n : ℕ) → length (each_place d f l₀ n) ≡ length l₀
  unfolding each_place
  length_places zero = refl
  length_places (suc n) = length-set (each_place d f l₀ n) n _ ∙ length_places n

  -- places from n on are as they were
  pub place_past : (n i : ℕ) → n ≤ i → get_or (each_place d f l₀ n) i d ≡ get_or l₀ i d
  unfolding each_place
  place_past zero i h = refl
  place_past (suc n) i h = get_or-set_other (each_place d f l₀ n) n i _ d (omega arith) ∙ place_past n i (omega arith)

  -- places below n are made anew, each from what it held
  pub place_at : (n i : ℕ) → i < n → n ≤ length l₀ → get_or (each_place d f l₀ n) i d ≡ f i (get_or l₀ i d)
  unfolding each_place
  place_at zero i l h = absurd (omega arith)
  place_at (suc n) i l h = go (eqb i n) refl (place_at n i)
    where
      go : (b : Bool) → eqb i n ≡ b → (i < n → n ≤ length l₀ → get_or (each_place d f l₀ n) i d ≡ f i (get_or l₀ i d))
          → get_or (set (each_place d f l₀ n) n (f n (get_or (each_place d f l₀ n) n d))) i d ≡ f i (get_or l₀ i d)
      go true q ih =
          let e : i ≡ n = eqb-true i n q in
          ap (λ k. get_or (set (each_place d f l₀ n) n (f n (get_or (each_place d f l₀ n) n d))) k d) e
          ∙ get_or-set_same (each_place d f l₀ n) n _ d (omega (arith, length_places n))
          ∙ ap (f n) (place_past n n (omega arith)) ∙ ap (λ k. f k (get_or l₀ k d)) (sym e)
      go false q ih =
          let ne : i ≡ n → ⊥ = eqb-false i n q in
          get_or-set_other (each_place d f l₀ n) n i _ d ne ∙ ih (omega arith) (omega arith)
