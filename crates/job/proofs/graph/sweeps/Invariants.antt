use mathlib.Core.Path.{◌≡◌}
use mathlib.Core.List.{List}
use Prim.Native.Nat.{ℕ, ◌<◌}
use denote.Ref.{Bor}
use Rattle.job.specs.Tests.{sweeps}
use Rattle.job.proofs.graph.sweeps.Given as goal

abbrev pub invariant-loop-round : goal.invariant-loop-round
invariant-loop-round g l =
    (f : List _ → ℕ → _)
    → ((m : Bor (List _)) (t : ℕ) (x : _) → t < l.n → goal.F-post g l.anew m t x → x ≡ f m.now t)
    → l.list ≡ sweeps f l.fn.list l.n l.round
