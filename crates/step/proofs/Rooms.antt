-- Totals that fit have room for one value more while their count is below 1,048,576, and fit again with it.
use mathlib.Core.Path.{◌≡◌, refl, ap, ap₂}
use mathlib.Core.Bool.{Bool, true, false, cond, ◌&&◌, false≢true}
use Prim.Native.Nat.{ℕ, zero, suc, ◌+◌, ◌-◌, ◌*◌, ◌≤◌, ◌<◌, ◌^◌}
use native.Mathlib.Omega.{arith}
use borrow.Author.Tests.{leb-true, le-leb, ltb-true}
use lib.Dec.{ltb}
use lib.IntN.{ℤ, pos, negsuc, neg_ℤ, nat_abs, ◌+ℤ◌, sub_ℕ}
use lib.Signed.{mag, le_z}
use mir.Syntax.{w32}
use mir.Val.{SFits}
use Rattle.tally.specs.declared.Totals.{Totals}
use Rattle.tally.specs.Totals.{with_value, Room}
use Rattle.job.specs.declared.Job.{Job}
use Rattle.job.specs.Jobs.{b_of, is_source}
use Rattle.job.proofs.Bools.{both_true}
use Rattle.run.specs.Fit.{sum_fits, TotalsFit}

-- ---- a sum between -2^31 and 2^31 - 1 times the count, in plain numbers
abbrev pub SumFits : ℤ → ℕ → Type 0
SumFits (pos s) n = s ≤ n * 2147483647
SumFits (negsuc s) n = suc s ≤ n * 2147483648

neg_low : (k s : ℕ) → le_z (neg_ℤ (pos k)) (negsuc s) ≡ true → suc s ≤ k
neg_low zero s e = absurd (false≢true e)
neg_low (suc k) s e = omega (arith, leb-true s k e)

low_neg : (k s : ℕ) → suc s ≤ k → le_z (neg_ℤ (pos k)) (negsuc s) ≡ true
low_neg zero s h = absurd (omega arith)
low_neg (suc k) s h = le-leb s k (omega arith)

low_pos : (k s : ℕ) → le_z (neg_ℤ (pos k)) (pos s) ≡ true
low_pos zero s = le-leb 0 s (omega arith)
low_pos (suc k) s = refl

pub sum_plain : (s : ℤ) (n : ℕ) → sum_fits s n ≡ true → SumFits s n
sum_plain (pos s) n e = leb-true s (n * 2147483647) (both_true (le_z (neg_ℤ (pos (n * 2147483648))) (pos s)) (le_z (pos s) (pos (n * 2147483647))) e).1
sum_plain (negsuc s) n e = neg_low (n * 2147483648) s (both_true (le_z (neg_ℤ (pos (n * 2147483648))) (negsuc s)) (le_z (negsuc s) (pos (n * 2147483647))) e).0

pub plain-sum : (s : ℤ) (n : ℕ) → SumFits s n → sum_fits s n ≡ true
plain-sum (pos s) n h = ap₂ ◌&&◌ (low_pos (n * 2147483648) s) (le-leb s (n * 2147483647) h)
plain-sum (negsuc s) n h = ap (λ b. b && true) (low_neg (n * 2147483648) s h)

-- ---- room
sum_small : (s : ℤ) (n : ℕ) → n ≤ 1048576 → SumFits s n → mag s < 2 ^ 62
sum_small (pos s) n h p = omega arith
sum_small (negsuc s) n h p = omega arith

pub has_room : (job : Job) (t : ℕ) (x : Totals) → TotalsFit job t x → x.count < 1048576 → Room x
has_room job t x f h = record { counts = h; sums = sum_small x.sum x.count f.counts (sum_plain x.sum x.count f.sums) }

-- ---- one value more
sub_fits : (a b n : ℕ) → a ≤ n * 2147483647 + 2147483647 → b ≤ n * 2147483648 + 2147483648 → SumFits (sub_ℕ a b) (n + 1)
sub_fits a b n p q = go (ltb a b) refl
  where
    go : (t : Bool) → ltb a b ≡ t → SumFits (cond t (negsuc (b - suc a)) (pos (a - b))) (n + 1)
    go true e = omega (arith, ltb-true a b e)
    go false e = omega arith

sum_more : (s v : ℤ) (n : ℕ) → SumFits s n → SFits w32 v → SumFits (s +ℤ v) (n + 1)
sum_more (pos s) (pos v) n p q = omega (arith, q.sfits)
sum_more (pos s) (negsuc v) n p q = sub_fits s (suc v) n (omega arith) (omega (arith, q.sfits))
sum_more (negsuc s) (pos v) n p q = sub_fits v (suc s) n (omega (arith, q.sfits)) (omega arith)
sum_more (negsuc s) (negsuc v) n p q = omega (arith, q.sfits)

-- the new count is within the task's bounds
pub with_fits : (job : Job) (t : ℕ) (x : Totals) (v : ℤ) → TotalsFit job t x → SFits w32 v → x.count < 1048576
    → (is_source job t ≡ true → x.count < nat_abs (b_of job t)) → TotalsFit job t (with_value x v)
with_fits job t x v f q h s = record {
  counts = omega arith;
  source = λ e. let l = s e in omega arith;
  sums = plain-sum (x.sum +ℤ v) (x.count + 1) (sum_more x.sum v x.count (sum_plain x.sum x.count f.sums) q);
  empty = λ e. absurd (omega arith);
}
