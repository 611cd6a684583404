-- Lists of eight items, as the array of a channel.
use mathlib.Core.Path.{◌≡◌, sym, ◌∙◌}
use mathlib.Core.List.{List, [], ◌∷◌, ◌++◌, map}
use Prim.Native.Nat.{ℕ}
use native.Mathlib.Omega.{arith}
use lib.ListN.{length, length-map, get_or, drop, drop_of_length-le}
use lib.Seq.{drop-cons}

-- eight items moved up by one, and another in the last place
pub moved : {A : Type 0} (l : List A) (d b : A) → length l ≡ 8
    → get_or l 1 d ∷ get_or l 2 d ∷ get_or l 3 d ∷ get_or l 4 d ∷ get_or l 5 d ∷ get_or l 6 d ∷ get_or l 7 d ∷ b ∷ [] ≡ drop 1 l ++ b ∷ []
moved l d b e =
    rw (
      drop-cons l 1 d (omega arith),
      drop-cons l 2 d (omega arith),
      drop-cons l 3 d (omega arith),
      drop-cons l 4 d (omega arith),
      drop-cons l 5 d (omega arith),
      drop-cons l 6 d (omega arith),
      drop-cons l 7 d (omega arith),
      drop_of_length-le l {i = 8} (omega arith),
    )

-- the length of an array of structs, from what owning its struct tells: `search (needs, counted)` finds it
pub counted : {A B : Type 0} (f : A → B) (l : List A) (n : ℕ) → length (map f l) ≡ n → length l ≡ n
counted f l n e = sym (length-map l f) ∙ e
