-- REQUEST h, the numbers on barriers, 0 to 3, counted round, and the four places for half-taken totals. In a run of the theory both
-- are determined: with `first` the number of the oldest snapshot under way, the next barrier of channel c has the number (first +
-- barriers taken from c) mod 4, and snapshot i under way (0 the oldest) has the place (first + i) mod 4.
use Rattle.std.specs.Prelude.{cond, List, [], ◌∷◌, ℕ, suc, ◌+◌, ◌%◌, ltb}
use Rattle.laws.specs.Items.{Item, barrier, rec}
use Rattle.laws.specs.Run.{Run}

-- an item whose barriers carry a number
pub data Numbered (R : Type 0) : Type 0 where
  num_bar : ℕ → Numbered R
  num_rec : R → Numbered R

module _ {R : Type 0} where
  -- barriers numbered from k on
  abbrev pub label : ℕ → List (Item R) → List (Numbered R)
  label k [] = []
  label k (barrier ∷ xs) = num_bar (k % 4) ∷ label (suc k) xs
  label k (rec r ∷ xs) = num_rec r ∷ label k xs

  abbrev pub num_recs : List R → List (Numbered R)
  num_recs [] = []
  num_recs (r ∷ rs) = num_rec r ∷ num_recs rs

  -- channel c with its numbers
  abbrev pub numbered : {C : Type 0} → ℕ → Run R C → ℕ → List (Numbered R)
  numbered first s c = label (first + s.gone c) (s.chan c)

-- the half-taken totals by their place (`slot`), read as the theory has them, by the snapshot's number under way
abbrev pub taken : {C : Type 0} → C → ℕ → (ℕ → ℕ → C) → ℕ → ℕ → C
taken ε first slot i v = cond (ltb i 4) (slot ((first + i) % 4) v) ε
