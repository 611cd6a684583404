-- Signed division by a power of two: the quotient fits 32 bits, and `1i32 << a` is that power.
use mathlib.Core.Path.{◌≡◌, refl, sym, subst}
use Prim.Native.Nat.{ℕ, zero, suc, ◌<◌, ◌≤◌, ◌^◌, ◌*◌, ◌/◌, ◌%◌, zero-le}
use native.Mathlib.Nat.{le_of_suc-le-suc, div-le_self, lt_of_le_of_lt}
use native.Mathlib.Omega.{arith}
use lib.IntN.{ℤ, pos, negsuc, neg_ℤ, nat_abs}
use lib.Dec.{T}
use lib.Pow.{pow-lt}
use lib.Signed.{mag, quot_z}
use mir.Syntax.{w32}
use mir.Val.{SFits, of_z}
use Rattle.kinds.specs.Kinds.{Scales}

mag_neg : (r a : ℕ) → r ≤ suc a → mag (neg_ℤ (pos r)) ≤ a
mag_neg zero a h = zero-le
mag_neg (suc r) a h = le_of_suc-le-suc h

mag_quot : (v : ℤ) (m : ℕ) → mag (quot_z v (pos m)) ≤ mag v
mag_quot (pos a) m = div-le_self a m
mag_quot (negsuc a) m = mag_neg (suc a / m) a (div-le_self (suc a) m)

pub quot_fits : (v : ℤ) (m : ℕ) → SFits w32 v → SFits w32 (quot_z v (pos m))
quot_fits v m q = record { sfits = lt_of_le_of_lt (mag_quot v m) q.sfits }

pub scale_bits : (a : ℤ) → Scales a → of_z w32 a ≡ nat_abs a
scale_bits (pos n) s = refl
scale_bits (negsuc n) s = absurd (subst T (sym s.low) tt)

pub scale_pow : (a : ℤ) → Scales a → 2 ^ nat_abs a < 2 ^ 31
scale_pow a s = pow-lt {j = 31} (omega (arith, s.high))

-- what `1i32 << a` holds
pub scale_one : (a : ℤ) → Scales a → (1 * 2 ^ of_z w32 a) % 4294967296 ≡ 2 ^ nat_abs a
scale_one a s = rw (scale_bits a s) (omega (arith, scale_pow a s))
