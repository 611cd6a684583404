-- The loop has done the steps before this one, and written a row for each.
use mathlib.Core.Path.{◌≡◌}
use Prim.Native.Nat.{◌*◌}
use lib.ListN.{length}
use Rattle.job.specs.Columns.{columns_of}
use Rattle.traced.specs.Lines.{Writes}
use Rattle.traced.specs.Traces.{run_after, step_rows}
use Rattle.traced.proofs.trace.put_steps.Given as goal

abbrev pub invariant-loop-n : goal.invariant-loop-n
invariant-loop-n l =
    (length l.out ≡ length l.initial.out)
    × (l.run ≡ run_after (columns_of l.lent) l.numbers l.n-index)
    × Writes (128 * l.n-index) l.initial.out l.at (step_rows (columns_of l.lent) l.numbers l.n-index) l.out l.next
