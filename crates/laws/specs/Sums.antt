-- Sums in a commutative monoid: an addition whose order and grouping make no difference, with an empty sum. Counts, sums, least and
-- greatest values are all such additions, so whatever is proved of these sums is proved of totals.
use Rattle.std.specs.Prelude.{◌≡◌, Bool, true, false, List, [], ◌∷◌, ℕ, zero, suc, ◌+◌}
use Rattle.std.proofs.Common.{add_assoc, add_comm, zero-add}

-- a commutative monoid
pub record CMon : Type 1 where
  pub Car : Type 0
  pub op : Car → Car → Car
  pub unit : Car
  pub assoc : (a b c : Car) → op (op a b) c ≡ op a (op b c)
  pub comm : (a b : Car) → op a b ≡ op b a
  pub unit_l : (a : Car) → op unit a ≡ a

module _ (M : CMon) where
  open M use {Car, op as ◌⊕◌, unit as ε}

  infixl 60 ◌⊕◌
  -- a term, or nothing where the test fails
  abbrev pub pick : Bool → Car → Car
  pick true x = x
  pick false x = ε

  -- f 0 ⊕ f 1 ⊕ .. ⊕ f (n-1)
  abbrev pub sum_n : ℕ → (ℕ → Car) → Car
  sum_n zero f = ε
  sum_n (suc n) f = sum_n n f ⊕ f n

  -- the sum of φ x over the elements x of a list
  abbrev pub sum_l : {A : Type 0} → (A → Car) → List A → Car
  sum_l φ [] = ε
  sum_l φ (x ∷ xs) = φ x ⊕ sum_l φ xs

-- the sum of numbers
abbrev pub nat_mon : CMon
nat_mon = record { Car = ℕ; op = ◌+◌; unit = 0; assoc = add_assoc; comm = add_comm; unit_l = zero-add }

-- how many records there are, as such a sum
abbrev pub counted : {A : Type 0} → List A → ℕ
counted xs = sum_l nat_mon (λ x. 1) xs

-- a map that respects the additions, as from totals to their counts
pub record Hom (M N : CMon) : Type 0 where
  pub map : M.Car → N.Car
  pub map_op : (a b : M.Car) → map (M.op a b) ≡ N.op (map a) (map b)
  pub map_unit : map M.unit ≡ N.unit
