use mathlib.Core.Path.{◌≡◌}
use Prim.Native.Nat.{ℕ, ◌<◌}
use lib.ListN.{get_or, length}
use Rattle.job.specs.Jobs.{place_of}
use Rattle.drain.proofs.sending.all_outputs.Given as goal

abbrev pub invariant-loop-t : goal.invariant-loop-t
invariant-loop-t l = (length l.outs ≡ 16) × ((u : ℕ) → u < l.t → get_or l.outs u 0 ≡ place_of l.job u l.job.channels)
