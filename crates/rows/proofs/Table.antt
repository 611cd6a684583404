-- Worked examples at the edge, which do not compute by themselves: the least numbers of 32 and of 64 bits. Assumes nothing.
use mathlib.Core.Path.{◌≡◌, ap}
use mathlib.Core.List.{List, [], ◌∷◌}
use Prim.Native.Nat.{ℕ}
use lib.Dec.{lit<}
use lib.IntN.{negsuc}
use Rattle.rows.specs.Decimals.{digits_in, decimal}
use Rattle.rows.proofs.Digits.{digits_fuel}

pub least_32 : decimal (negsuc 2147483647) ≡ 45 ∷ 50 ∷ 49 ∷ 52 ∷ 55 ∷ 52 ∷ 56 ∷ 51 ∷ 54 ∷ 52 ∷ 56 ∷ []
unfolding decimal digits_in
least_32 = ap (λ (l : List ℕ). 45 ∷ l) (digits_fuel 9 2147483648 (lit< tt))

pub least_64 :
    decimal (negsuc 9223372036854775807)
    ≡ 45 ∷ 57 ∷ 50 ∷ 50 ∷ 51 ∷ 51 ∷ 55 ∷ 50 ∷ 48 ∷ 51 ∷ 54 ∷ 56 ∷ 53 ∷ 52 ∷ 55 ∷ 55 ∷ 53 ∷ 56 ∷ 48 ∷ 56 ∷ []
unfolding decimal digits_in
least_64 = ap (λ (l : List ℕ). 45 ∷ l) (digits_fuel 18 9223372036854775808 (lit< tt))
