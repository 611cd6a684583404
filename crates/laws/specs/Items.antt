-- What a channel holds: items in order, each a barrier or a record. A snapshot counts of a channel the records before its barrier.
use Rattle.std.specs.Prelude.{◌≡◌, refl, List, [], ◌∷◌, ℕ, zero, suc}

pub data Item (R : Type 0) : Type 0 where
  barrier : Item R
  rec : R → Item R

module _ {R : Type 0} where
  -- all records
  abbrev pub recs : List (Item R) → List R
  recs [] = []
  recs (barrier ∷ xs) = recs xs
  recs (rec r ∷ xs) = r ∷ recs xs

  -- those before the k-th barrier, none where k is 0
  abbrev pub upto : ℕ → List (Item R) → List R
  upto zero xs = []
  upto (suc k) [] = []
  upto (suc k) (barrier ∷ xs) = upto k xs
  upto (suc k) (rec r ∷ xs) = r ∷ upto (suc k) xs

  -- how many barriers
  abbrev pub bars : List (Item R) → ℕ
  bars [] = 0
  bars (barrier ∷ xs) = suc (bars xs)
  bars (rec r ∷ xs) = bars xs

  -- records as items
  abbrev pub as_items : List R → List (Item R)
  as_items [] = []
  as_items (r ∷ rs) = rec r ∷ as_items rs

  -- the items without the head
  abbrev pub tl : List (Item R) → List (Item R)
  tl [] = []
  tl (x ∷ xs) = xs

-- of 5, barrier, 6, barrier, 7 the first snapshot counts the 5, the second the 5 and the 6
abbrev five : List (Item ℕ)
five = rec 5 ∷ barrier ∷ rec 6 ∷ barrier ∷ rec 7 ∷ []

first_counts : upto 1 five ≡ 5 ∷ []
first_counts = refl

second_counts : upto 2 five ≡ 5 ∷ 6 ∷ []
second_counts = refl
