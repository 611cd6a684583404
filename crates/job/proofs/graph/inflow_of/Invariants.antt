use mathlib.Core.Path.{◌≡◌}
use Prim.Native.Nat.{◌≤◌}
use Rattle.job.specs.Rules.{capped_inflow}
use Rattle.job.proofs.graph.inflow_of.Given as goal

abbrev pub invariant-loop-c : goal.invariant-loop-c
invariant-loop-c l = (l.sum ≤ 1048577) × (l.sum ≡ capped_inflow l.job l.worst l.t l.c)
