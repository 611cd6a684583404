use mathlib.Core.Path.{◌≡◌}
use mathlib.Core.List.{List}
use Prim.Native.Nat.{ℕ, ◌<◌}
use denote.Ref.{Bor}
use Rattle.job.specs.Tests.{sweep}
use Rattle.job.proofs.graph.sweep.Given as goal

abbrev pub invariant-loop-t : goal.invariant-loop-t
invariant-loop-t g l =
    (f : List _ → ℕ → _)
    → ((m : Bor (List _)) (t : ℕ) (x : _) → t < l.n → goal.F-post g l.anew m t x → x ≡ f m.now t)
    → l.list ≡ sweep f l.initial.list l.t
