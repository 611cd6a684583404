-- A task's totals, a source's records, as a snapshot sees them: through the store. They grow where the task has not stored, stay
-- where it has, and a store or a begin changes nothing.
use mathlib.Core.Path.{◌≡◌, refl, sym, ap, ◌∙◌}
use mathlib.Core.Bool.{Bool, true, false, cond, true≢false, false≢true}
use mathlib.Core.List.{List, [], ◌∷◌, ◌++◌, append-nil}
use Prim.Native.Nat.{ℕ, suc, ◌+◌, ◌<◌, ◌≤◌}
use native.Mathlib.Nat.{add-zero}
use native.Mathlib.Numerals.{add-one}
use native.Mathlib.Omega.{arith}
use lib.Dec.{eqb, ltb}
use lib.ListN.{take}
use borrow.Author.Tests.{ne_eqb, eqb-true, eqb-false, lt-ltb, le-ltb, ltb-true, ltb-false}
use Rattle.laws.specs.Received.{keep}
use Rattle.laws.specs.Below.{bit}
use Rattle.laws.specs.Sums.{CMon, pick}
use Rattle.laws.proofs.Sums.{unit_r}

module _ (M : CMon) where
  open M use {Car, op as ◌⊕◌}

  infixl 60 ◌⊕◌
  -- a total that grows at task t, seen through the store
  pub tot_open : (st b : Bool) (h l x : Car) → (b ≡ true → st ≡ false)
      → cond st h (l ⊕ pick M b x) ≡ cond st h l ⊕ pick M b x
  tot_open true true h l x p = absurd (true≢false (p refl))
  tot_open true false h l x p = sym (unit_r M h)
  tot_open false b h l x p = refl

  pub tot_shut : (st b : Bool) (h l x : Car) → (b ≡ true → st ≡ true) → cond st h (l ⊕ pick M b x) ≡ cond st h l
  tot_shut true b h l x p = refl
  tot_shut false true h l x p = absurd (false≢true (p refl))
  tot_shut false false h l x p = unit_r M l

-- of a stored total: when one more is stored, seen for snapshot i
pub tot_store : {C : Type 0} (b : Bool) (i st : ℕ) (h l : C)
    → cond (ltb i (st + bit b)) (cond b (cond (eqb i st) l h) h) l ≡ cond (ltb i st) h l
tot_store {C} true i st h l = go (ltb i st) refl (eqb i st) refl
  where
    go : (x : Bool) → ltb i st ≡ x → (y : Bool) → eqb i st ≡ y
        → cond (ltb i (st + 1)) (cond (eqb i st) l h) l ≡ cond (ltb i st) h l
    go true e true q = let a : i < st = ltb-true i st e in let b : i ≡ st = eqb-true i st q in absurd (omega arith)
    go true e false q = let a : i < st = ltb-true i st e in rw (e, q, lt-ltb i (st + 1) (omega arith))
    go false e true q = let b : i ≡ st = eqb-true i st q in rw (e, q, lt-ltb i (st + 1) (omega arith))
    go false e false q = let a : st ≤ i = ltb-false i st e in
        let b : i ≡ st → ⊥ = eqb-false i st q in
        rw (e, q, le-ltb i (st + 1) (omega arith))
tot_store {C} false i st h l = ap (λ z. cond (ltb i z) h l) (add-zero st)

-- when the place of the next is cleared
pub tot_clear : {C : Type 0} (i st go : ℕ) (e h l : C) → st ≤ go
    → cond (ltb i st) (cond (eqb i go) e h) l ≡ cond (ltb i st) h l
tot_clear {C} i st go e h l le = by (ltb i st) refl
  where
    by : (x : Bool) → ltb i st ≡ x → cond x (cond (eqb i go) e h) l ≡ cond x h l
    by true q = let a : i < st = ltb-true i st q in rw (ne_eqb i go (omega arith))
    by false q = refl

-- the read records when one more is read, and seen through the store
module _ {R : Type 0} where
  take_grow : (b : Bool) (o : ℕ) (xs : List R) (r : R) → (b ≡ true → take (suc o) xs ≡ take o xs ++ (r ∷ []))
      → take (o + bit b) xs ≡ take o xs ++ keep b (r ∷ [])
  take_grow true o xs r p = ap (λ k. take k xs) (add-one o) ∙ p refl
  take_grow false o xs r p = ap (λ k. take k xs) (add-zero o) ∙ sym (append-nil (take o xs))

  pub take_open : (st b : Bool) (h o : ℕ) (xs : List R) (r : R)
      → (b ≡ true → take (suc o) xs ≡ take o xs ++ (r ∷ [])) → (b ≡ true → st ≡ false)
      → take (cond st h (o + bit b)) xs ≡ take (cond st h o) xs ++ keep b (r ∷ [])
  take_open true true h o xs r p q = absurd (true≢false (q refl))
  take_open true false h o xs r p q = sym (append-nil (take h xs))
  take_open false b h o xs r p q = take_grow b o xs r p

  pub take_shut : (st b : Bool) (h o : ℕ) (xs : List R) → (b ≡ true → st ≡ true)
      → take (cond st h (o + bit b)) xs ≡ take (cond st h o) xs
  take_shut true b h o xs p = refl
  take_shut false true h o xs p = absurd (false≢true (p refl))
  take_shut false false h o xs p = ap (λ k. take k xs) (add-zero o)
