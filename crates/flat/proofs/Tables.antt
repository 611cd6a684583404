-- A list given by its places (`table`): its length, its elements, and a store into it.
use mathlib.Core.Path.{◌≡◌, refl, sym, ap, ◌∙◌}
use mathlib.Core.Logic.{◌≢◌}
use mathlib.Core.Bool.{Bool, true, false}
use mathlib.Core.List.{List}
use Prim.Native.Nat.{ℕ, zero, suc, ◌+◌, ◌<◌}
use native.Mathlib.Omega.{arith}
use lib.Dec.{eqb}
use lib.ListN.{get_or, set, length, length-set}
use lib.Seq.{ext_get_or, get_or-set_same, get_or-set_other}
use borrow.Author.Tests.{eqb-true, eqb-false}
use Rattle.flat.specs.Columns.{table}

module _ {A : Type 0} where
  pub length_table : (f : ℕ → A) (n : ℕ) → length (table f n) ≡ n
  unfolding table
  length_table f zero = refl
  length_table f (suc n) = ap suc (length_table (λ k. f (suc k)) n)

  pub get_or-table : (f : ℕ → A) (n k : ℕ) (d : A) → k < n → get_or (table f n) k d ≡ f k
  unfolding table
  get_or-table f zero k d h = absurd (omega arith)
  get_or-table f (suc n) zero d h = refl
  get_or-table f (suc n) (suc k) d h = get_or-table (λ j. f (suc j)) n k d (omega arith)

  -- a list that has f's values is f's table
  pub as_table : (d : A) (f : ℕ → A) (n : ℕ) (l : List A) → length l ≡ n → ((k : ℕ) → k < n → f k ≡ get_or l k d) → table f n ≡ l
  as_table d f n l e same =
      ext_get_or d (table f n) l (length_table f n ∙ sym e)
      (λ k h. get_or-table f n k d (omega (arith, length_table f n)) ∙ same k (omega (arith, length_table f n)))

  -- a table that differs in one place is the other with a store
  pub stored : (d : A) (f g : ℕ → A) (n c : ℕ) (x : A) → c < n → g c ≡ x → ((k : ℕ) → k < n → k ≢ c → g k ≡ f k) → table g n ≡ set
      (table f n) c x
  stored d f g n c x h here there =
      as_table d g n (set (table f n) c x) (length-set (table f n) c x ∙ length_table f n) (λ k l. go k l (eqb k c) refl)
    where
      go : (k : ℕ) → k < n → (b : Bool) → eqb k c ≡ b → g k ≡ get_or (set (table f n) c x) k d
      go k l true q =
          let e : k ≡ c = eqb-true k c q in
          ap g e ∙ here ∙ sym (get_or-set_same (table f n) c x d (omega (arith, length_table f n)))
          ∙ ap (λ j. get_or (set (table f n) c x) j d) (sym e)
      go k l false q =
          let ne : k ≢ c = eqb-false k c q in
          there k l ne ∙ sym (get_or-table f n k d l) ∙ sym (get_or-set_other (table f n) c k x d ne)

  pub table_same : (d : A) (f g : ℕ → A) (n : ℕ) → ((k : ℕ) → k < n → f k ≡ g k) → table f n ≡ table g n
  table_same d f g n same = as_table d f n (table g n) (length_table g n) (λ k l. same k l ∙ sym (get_or-table g n k d l))

-- a place more is filled
pub one_more : (l : List ℕ) (t x : ℕ) (f : ℕ → ℕ) → t < length l → x ≡ f t → ((u : ℕ) → u < t → get_or l u 0 ≡ f u)
    → (u : ℕ) → u < t + 1 → get_or (set l t x) u 0 ≡ f u
one_more l t x f inside e so_far u h = go (eqb u t) refl
  where
    go : (b : Bool) → eqb u t ≡ b → get_or (set l t x) u 0 ≡ f u
    go true q =
        let same : u ≡ t = eqb-true u t q in
        ap (λ k. get_or (set l t x) k 0) same ∙ get_or-set_same l t x 0 inside ∙ e ∙ ap f (sym same)
    go false q =
        let ne : u ≡ t → ⊥ = eqb-false u t q in
        get_or-set_other l t u x 0 ne ∙ so_far u (omega arith)
