-- The first line of the table that holds: where it stands, and what its answer says of every line.
use mathlib.Core.Path.{◌≡◌, refl, sym, ap, ◌∙◌}
use mathlib.Core.Bool.{Bool, true, false, true≢false}
use mathlib.Core.List.{List, [], ◌∷◌, ◌++◌}
use Prim.Native.Nat.{ℕ, zero, suc, ◌+◌, ◌<◌}
use native.Mathlib.Omega.{arith}
use lib.ListN.{length, get_or}
use Rattle.job.specs.Rules.{first_fault}

-- no line of the first list holds: the second is asked, its numbers going on
pub first_on : (xs ys : List Bool) (k : ℕ) → 0 < k → first_fault xs k ≡ 0 → first_fault (xs ++ ys) k ≡ first_fault ys (length xs + k)
unfolding first_fault
first_on [] ys k p e = ap (first_fault ys) (omega arith)
first_on (true ∷ xs) ys k p e = absurd (omega arith)
first_on (false ∷ xs) ys k p e = first_on xs ys (suc k) (omega arith) e ∙ ap (first_fault ys) (omega arith)

-- a line of the first list holds: the second is not asked
pub first_here : (xs ys : List Bool) (k : ℕ) → (first_fault xs k ≡ 0 → ⊥) → first_fault (xs ++ ys) k ≡ first_fault xs k
unfolding first_fault
first_here [] ys k ne = absurd (ne refl)
first_here (true ∷ xs) ys k ne = refl
first_here (false ∷ xs) ys k ne = first_here xs ys (suc k) ne

-- the answer 0: no line holds
pub first_none : (xs : List Bool) (k : ℕ) → 0 < k → first_fault xs k ≡ 0 → (i : ℕ) → get_or xs i false ≡ false
unfolding first_fault
first_none [] k p e i = refl
first_none (true ∷ xs) k p e i = absurd (omega arith)
first_none (false ∷ xs) k p e zero = refl
first_none (false ∷ xs) k p e (suc i) = first_none xs (suc k) (omega arith) e i

pub none_first : (xs : List Bool) (k : ℕ) → ((i : ℕ) → get_or xs i false ≡ false) → first_fault xs k ≡ 0
unfolding first_fault
none_first [] k h = refl
none_first (true ∷ xs) k h = absurd (true≢false (h 0))
none_first (false ∷ xs) k h = none_first xs (suc k) (λ i. h (suc i))

-- line i holds and none before it
pub record First (xs : List Bool) (i : ℕ) : Type 0 where
  pub holds : get_or xs i false ≡ true
  pub none_before : (j : ℕ) → j < i → get_or xs j false ≡ false

pub first_is : (xs : List Bool) (k i : ℕ) → 0 < k → first_fault xs k ≡ i + k → First xs i
unfolding first_fault
first_is [] k i p e = absurd (omega arith)
first_is (true ∷ xs) k zero p e = record { holds = refl; none_before = λ j l. absurd (omega arith) }
first_is (true ∷ xs) k (suc i) p e = absurd (omega arith)
first_is (false ∷ xs) k zero p e = absurd (low xs (suc k) (omega arith) (omega arith) e)
  where
    low : (xs : List Bool) (n : ℕ) → 0 < k → k < n → first_fault xs n ≡ 0 + k → ⊥
    low [] n q l e = omega arith
    low (true ∷ xs) n q l e = omega arith
    low (false ∷ xs) n q l e = low xs (suc n) q (omega arith) e
first_is (false ∷ xs) k (suc i) p e = up (first_is xs (suc k) i (omega arith) (e ∙ omega arith))
  where
    up : First xs i → First (false ∷ xs) (suc i)
    up f = record { holds = f.holds; none_before = before f }
      where
        before : First xs i → (j : ℕ) → j < suc i → get_or (false ∷ xs) j false ≡ false
        before f zero l = refl
        before f (suc j) l = f.none_before j (omega arith)

pub is_first : (xs : List Bool) (k i : ℕ) → First xs i → first_fault xs k ≡ i + k
unfolding first_fault
is_first [] k i f = absurd (true≢false (sym f.holds))
is_first (true ∷ xs) k zero f = omega arith
is_first (true ∷ xs) k (suc i) f = absurd (true≢false (f.none_before 0 (omega arith)))
is_first (false ∷ xs) k zero f = absurd (true≢false (sym f.holds))
is_first (false ∷ xs) k (suc i) f =
    is_first xs (suc k) i (record { holds = f.holds; none_before = λ j l. f.none_before (suc j) (omega arith) }) ∙ omega arith

-- the number found is none past the list's end
pub first_most : (xs : List Bool) (k : ℕ) → 0 < k → first_fault xs k < length xs + k
unfolding first_fault
first_most [] k p = omega arith
first_most (true ∷ xs) k p = omega arith
first_most (false ∷ xs) k p = let h = first_most xs (suc k) (omega arith) in omega (arith, h)
