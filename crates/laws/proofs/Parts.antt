-- Reading on in a source's part: the next record, what has been read and what is left to read.
use mathlib.Core.Path.{◌≡◌, refl, sym, ap, ◌∙◌}
use mathlib.Core.Bool.{Bool, true, false}
use mathlib.Core.List.{List, [], ◌∷◌, ◌++◌, append_assoc, append_cancel_left, nil≢cons, head-eq_of_cons-eq}
use Prim.Native.Nat.{ℕ, zero, suc, ◌+◌, ◌<◌, ◌≤◌}
use native.Mathlib.Nat.{add-zero}
use native.Mathlib.Numerals.{add-one}
use native.Mathlib.Omega.{arith}
use lib.ListN.{length, take, drop, take-append-drop}
use lib.Seq.{drop-nil}
use Rattle.laws.specs.Received.{keep}
use Rattle.laws.specs.Below.{bit}

module _ {R : Type 0} where
  -- the next record of a list
  pub next : (o : ℕ) (xs : List R) → o < length xs → (r : R) × (take (suc o) xs ≡ take o xs ++ (r ∷ []))
  next o [] h = absurd (omega arith)
  next zero (x ∷ xs) h = (x, refl)
  next (suc o) (x ∷ xs) h = let q = next o xs (omega arith) in (q.0, ap {B = List R} (λ l. x ∷ l) q.1)

  -- the next record, from what is left, and the other way
  pub from_drop : (o : ℕ) (xs ys : List R) (r : R) → drop o xs ≡ r ∷ ys
      → (o < length xs) × (take (suc o) xs ≡ take o xs ++ (r ∷ []))
  from_drop o [] ys r h = absurd (nil≢cons (sym (drop-nil o) ∙ h))
  from_drop zero (x ∷ xs) ys r h = (omega arith, ap {B = List R} (λ z. z ∷ []) (head-eq_of_cons-eq h))
  from_drop (suc o) (x ∷ xs) ys r h = let q = from_drop o xs ys r h in
      (omega (arith, q.0), ap {B = List R} (λ z. x ∷ z) q.1)

  pub drop_of : (o : ℕ) (xs : List R) (r : R) → take (suc o) xs ≡ take o xs ++ (r ∷ []) → drop o xs ≡ r ∷ drop (suc o) xs
  drop_of o xs r p =
      append_cancel_left (take o xs) (drop o xs) (r ∷ drop (suc o) xs)
      (take-append-drop o xs ∙ sym (take-append-drop (suc o) xs) ∙ ap (λ l. l ++ drop (suc o) xs) p
      ∙ append_assoc (take o xs) (r ∷ []) (drop (suc o) xs))

  -- what is unread when one more is read, or none
  pub drop_grow : (b : Bool) (o : ℕ) (xs : List R) (r : R) → (b ≡ true → take (suc o) xs ≡ take o xs ++ (r ∷ []))
      → drop o xs ≡ keep b (r ∷ []) ++ drop (o + bit b) xs
  drop_grow true o xs r p = drop_of o xs r (p refl) ∙ ap (λ k. r ∷ drop k xs) (sym (add-one o))
  drop_grow false o xs r p = ap (λ k. drop k xs) (sym (add-zero o))

  pub take_short : (k : ℕ) (xs : List R) → length (take k xs) ≤ length xs
  take_short zero xs = omega arith
  take_short (suc k) [] = omega arith
  take_short (suc k) (x ∷ xs) = omega (arith, take_short k xs)
