use mathlib.Core.Path.{◌≡◌}
use Prim.Native.Nat.{◌≤◌}
use Rattle.job.specs.Jobs.{place_of}
use Rattle.outputs.proofs.Sending.{put_to}
use Rattle.outputs.proofs.put_all.Given as goal

abbrev pub invariant-loop-c : goal.invariant-loop-c
invariant-loop-c l =
    (l.held ≡ put_to l.job l.t l.cargo l.initial.held l.c) × (l.place ≡ place_of l.job l.t l.c) × (l.place ≤ l.c)
