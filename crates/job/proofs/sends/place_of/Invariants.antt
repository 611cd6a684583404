use Prim.Native.Nat.{◌≤◌}
use mathlib.Core.Path.{◌≡◌}
use Rattle.job.specs.Jobs.{place_of}
use Rattle.job.proofs.sends.place_of.Given as goal

abbrev pub invariant-loop-i : goal.invariant-loop-i
invariant-loop-i l = (l.place ≤ l.i) × (l.place ≡ place_of l.job l.t l.i)
