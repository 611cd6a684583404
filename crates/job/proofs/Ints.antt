-- Signed numbers within bounds, read as indices.
use mathlib.Core.Path.{◌≡◌, ap₂}
use mathlib.Core.Bool.{Bool, true, false, ◌&&◌, false≢true, true≢false}
use Prim.Native.Nat.{ℕ, ◌<◌, ◌≤◌}
use native.Mathlib.Omega.{arith}
use borrow.Author.Tests.{leb-true, leb-false, le-leb}
use lib.Dec.{T}
use lib.IntN.{ℤ, pos, negsuc, nat_abs, ◌+ℤ◌}
use lib.Signed.{non_neg, le_z, lt_z}
use mir.Syntax.{w32, w64}
use mir.Val.{SFits, bool_byte}
use Rattle.job.proofs.Bools.{both_true, neither}
use Rattle.tally.proofs.Ints.{sum_fits}
use Rattle.job.specs.Columns.{no_task}
use Rattle.kinds.specs.Kinds.{within}

pub within_non_neg : (x h : ℤ) → within (pos 0) x h ≡ true → T (non_neg x)
within_non_neg (pos n) h e = tt
within_non_neg (negsuc n) h e = absurd (false≢true e)

pub within_nat_abs : (x : ℤ) (h : ℕ) → within (pos 0) x (pos h) ≡ true → nat_abs x ≤ h
within_nat_abs (pos n) h e = leb-true n h (both_true (le_z (pos 0) (pos n)) (le_z (pos n) (pos h)) e).1
within_nat_abs (negsuc n) h e = absurd (false≢true e)

-- two 32-bit numbers have a sum of 64 bits
pub pair_fits : (a b : ℤ) → SFits w32 a → SFits w32 b → SFits w64 (a +ℤ b)
pair_fits a b p q = sum_fits a b (omega (arith, p.sfits)) q

within_of : (m h : ℕ) → m ≤ h → within (pos 0) (pos m) (pos h) ≡ true
within_of m h l = ap₂ ◌&&◌ (le-leb 0 m (omega arith)) (le-leb m h l)

pub within_wider : (x : ℤ) (h h' : ℕ) → h ≤ h' → within (pos 0) x (pos h) ≡ true → within (pos 0) x (pos h') ≡ true
within_wider (pos n) h h' l e = within_of n h' (omega (arith, within_nat_abs (pos n) h e))
within_wider (negsuc n) h h' l e = absurd (false≢true e)

pub zero_within : (x : ℤ) → 0 ≡ nat_abs x → within (pos 0) x (pos 0) ≡ true
zero_within (pos n) e = within_of n 0 (omega arith)
zero_within (negsuc n) e = absurd (omega arith)

-- ---- a number that names a task
pub named : (x : ℤ) (n : ℕ) → no_task x n ≡ false → nat_abs x < n
named (pos m) n e = leb-false n m (neither (lt_z (pos m) (pos 0)) (le_z (pos n) (pos m)) e).1
named (negsuc m) n e = absurd (true≢false e)

pub named_within : (x : ℤ) (n h : ℕ) → n ≤ h → no_task x n ≡ false → within (pos 0) x (pos h) ≡ true
named_within (pos m) n h l e = within_of m h (omega (arith, named (pos m) n e))
named_within (negsuc m) n h l e = absurd (true≢false e)

pub within_one : (x : ℤ) → within (pos 1) x (pos 20) ≡ true → within (pos 0) x (pos 20) ≡ true
within_one (pos n) e = within_of n 20 (leb-true n 20 (both_true (le_z (pos 1) (pos n)) (le_z (pos n) (pos 20)) e).1)
within_one (negsuc n) e = absurd (false≢true e)

pub one_nat_abs : (x : ℤ) → within (pos 1) x (pos 20) ≡ true → 1 ≤ nat_abs x
one_nat_abs (pos n) e = leb-true 1 n (both_true (le_z (pos 1) (pos n)) (le_z (pos n) (pos 20)) e).0
one_nat_abs (negsuc n) e = absurd (false≢true e)

pub byte_le : (b : Bool) → bool_byte b ≤ 1
byte_le true = omega arith
byte_le false = omega arith
