-- What the library prints of a number is its shortest decimal, and how long that is. Assumes nothing.
use mathlib.Core.Path.{◌≡◌, sym, ap, ◌∙◌}
use mathlib.Core.List.{List, [], ◌∷◌, ◌++◌}
use Prim.Native.Nat.{ℕ, zero, suc, ◌+◌, ◌/◌, ◌%◌, ◌^◌, ◌≤◌, ◌<◌}
use native.Mathlib.Nat.{le_refl}
use native.Mathlib.Omega.{arith}
use lib.IntN.{ℤ, pos, negsuc}
use lib.Dec.{ltb}
use lib.ListN.{length}
use borrow.Author.Tests.{ltb-true, ltb-false}
use mir.Syntax.{w64}
use mir.Val.{SFits}
use Rattle.std.specs.Fmt.{decimal as printed, signed_decimal}
use Rattle.std.proofs.lemmas.Fmt.{decimal_digit, decimal_step}
use Rattle.rows.specs.Decimals.{digits, decimal}
use Rattle.rows.proofs.Digits.{by_test, digits_small, digits_big, digits-length}

digits_printed : (k n : ℕ) → n ≤ k → n < 2 ^ 64 → printed n ≡ digits n
digits_printed zero n h f = decimal_digit n (omega arith) ∙ sym (digits_small n (omega arith))
digits_printed (suc k) n h f =
    by_test (ltb n 10)
    (λ t. let g = ltb-true n 10 t in decimal_digit n g ∙ sym (digits_small n g))
    (λ t.
    let g = ltb-false n 10 t in
    decimal_step n g f ∙ ap (λ (l : List ℕ). l ++ ((48 + n % 10) ∷ [])) (digits_printed k (n / 10) (omega arith) (omega arith))
    ∙ sym (digits_big n g))

pub decimal_printed : (z : ℤ) → SFits w64 z → signed_decimal z ≡ decimal z
unfolding decimal
decimal_printed (pos n) f = let h : n < 2 ^ 63 = f.sfits in digits_printed n n (le_refl n) (omega arith)
decimal_printed (negsuc n) f =
    let h : n < 2 ^ 63 = f.sfits in ap (λ (l : List ℕ). 45 ∷ l) (digits_printed (suc n) (suc n) (le_refl (suc n)) (omega arith))

pub decimal-length : (z : ℤ) → SFits w64 z → length (decimal z) ≤ 20
unfolding decimal
decimal-length (pos n) f = let h : n < 2 ^ 63 = f.sfits in digits-length 19 n (omega arith)
decimal-length (negsuc n) f = let h : n < 2 ^ 63 = f.sfits in omega (arith, digits-length 18 (suc n) (omega arith))
