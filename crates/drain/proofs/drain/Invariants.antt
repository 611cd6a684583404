use mathlib.Core.Path.{◌≡◌}
use Prim.Native.Nat.{◌≤◌, ◌-◌}
use Rattle.run.specs.Fit.{Fits}
use Rattle.drain.specs.Drains.{drained_of}
use Rattle.drain.proofs.drain.Given as goal

abbrev pub invariant-loop-n : goal.invariant-loop-n
invariant-loop-n l =
    (l.steps ≤ l.limit) × Fits l.job l.now
    × (drained_of l.job l.records.cylinders.now l.records.values.now (l.limit - l.steps) l.steps l.now
    ≡ drained_of l.job l.records.cylinders.now l.records.values.now l.limit 0 l.initial.now)

abbrev pub decreases-loop-n : goal.decreases-loop-n
decreases-loop-n l = l.limit - l.steps
