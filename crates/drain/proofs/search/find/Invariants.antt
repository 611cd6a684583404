use mathlib.Core.Path.{◌≡◌}
use Prim.Native.Nat.{◌≤◌, ◌-◌}
use Rattle.drain.specs.Drains.{first_from}
use Rattle.drain.specs.Ready.{possible_in}
use Rattle.drain.proofs.search.find.Given as goal

abbrev pub invariant-loop-n : goal.invariant-loop-n
invariant-loop-n l =
    (l.n ≤ 64) × (first_from (64 - l.n) l.n (possible_in l.job l.full l.flat) ≡ first_from 64 0 (possible_in l.job l.full l.flat))

abbrev pub decreases-loop-n : goal.decreases-loop-n
decreases-loop-n l = 64 - l.n
