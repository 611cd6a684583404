use mathlib.Core.Path.{◌≡◌}
use lib.IntN.{nat_abs}
use Rattle.job.specs.Tests.{filled}
use Rattle.job.specs.Columns.{number_of}
use Rattle.job.proofs.value.bytes.Given as goal

abbrev pub invariant-loop-i : goal.invariant-loop-i
invariant-loop-i g l = l.held ≡ filled g.row.N 0 (λ k. nat_abs (number_of l.column k)) l.i
