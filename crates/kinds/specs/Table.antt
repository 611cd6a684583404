-- Document 01's worked values of Scale, Range and Spread, computed from the definitions. -5 is `negsuc 4`, -2^31 is `negsuc 2147483647`.
use Rattle.std.specs.Prelude.{◌≡◌, refl, ℕ, ℤ, pos, negsuc}
use Rattle.tally.specs.declared.Record.{Record}
use Rattle.std.specs.Prelude.{Option}
use Rattle.std.specs.Prelude.{None, Some}
use Rattle.kinds.specs.Kinds.{sent_on}

abbrev of : ℕ → ℤ → Record
of cylinder value = record { cylinder = cylinder; value = value }

-- what a task with one output sends on it for a value of cylinder 1
abbrev alone : ℕ → ℤ → ℤ → ℤ → Option Record
alone kind a b v = sent_on kind a b 0 1 (of 1 v)

-- what a Spread task with 3 outputs sends for a record of cylinder 20 to the output at a place
abbrev spread_20 : ℕ → Option Record
spread_20 place = sent_on 5 (pos 0) (pos 0) place 3 (of 20 (pos 7))

pub table :
    (alone 3 (pos 1) (pos 0) (negsuc 4) ≡ Some (of 1 (negsuc 1)))
    × (alone 3 (pos 30) (pos 0) (negsuc 2147483647) ≡ Some (of 1 (negsuc 1)))
    × (alone 3 (pos 30) (pos 0) (negsuc 0) ≡ Some (of 1 (pos 0)))
    × (alone 2 (pos 10) (negsuc 9) (pos 0) ≡ None)
    × (spread_20 0 ≡ None)
    × (spread_20 1 ≡ Some (of 20 (pos 7)))
    × (spread_20 2 ≡ None)
unfolding sent_on
table = (refl, refl, refl, refl, refl, refl, refl)
