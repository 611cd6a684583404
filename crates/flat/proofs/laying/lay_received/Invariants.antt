use mathlib.Core.Path.{◌≡◌}
use Prim.Native.Nat.{ℕ, ◌<◌}
use lib.ListN.{get_or, length}
use Rattle.run.specs.Fit.{totals_at}
use Rattle.flat.proofs.laying.lay_received.Given as goal

abbrev pub invariant-loop-t : goal.invariant-loop-t
invariant-loop-t l =
    length l.initial.received ≡ 16 → (length l.received ≡ 16) × ((u : ℕ) → u < l.t → get_or l.received u 0 ≡ (totals_at l.live u).count)
