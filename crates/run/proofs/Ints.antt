-- "Any signed 32-bit number", as a test and as the type's fact.
use mathlib.Core.Path.{◌≡◌, ap}
use mathlib.Core.Bool.{true, ◌&&◌}
use native.Mathlib.Omega.{arith}
use lib.IntN.{ℤ, pos, negsuc}
use lib.Signed.{le_z}
use borrow.Author.Tests.{leb-true, le-leb}
use Rattle.kinds.specs.Kinds.{is_value}
use Rattle.job.proofs.Bools.{both_true}
use mir.Syntax.{w32}
use mir.Val.{SFits}

pub value_is : (v : ℤ) → SFits w32 v → is_value v ≡ true
value_is (pos n) f = le-leb n 2147483647 (omega (arith, f.sfits))
value_is (negsuc n) f = ap (λ b. b && true) (le-leb n 2147483647 (omega (arith, f.sfits)))

pub is_value_lem : (v : ℤ) → is_value v ≡ true → SFits w32 v
is_value_lem (pos n) e = record { sfits = let l = leb-true n 2147483647 (both_true (le_z (negsuc 2147483647) (pos n)) (le_z (pos n) (pos 2147483647)) e).1 in omega arith }
is_value_lem (negsuc n) e = record { sfits = let l = leb-true n 2147483647 (both_true (le_z (negsuc 2147483647) (negsuc n)) (le_z (negsuc n) (pos 2147483647)) e).0 in omega arith }
