use mathlib.Core.Path.{◌≡◌}
use mathlib.Core.Bool.{false, not, ◌&&◌}
use Rattle.job.specs.Jobs.{is_input}
use Rattle.outputs.specs.Outputs.{each_place}
use Rattle.outputs.proofs.unmark.Given as goal

abbrev pub invariant-loop-c : goal.invariant-loop-c
invariant-loop-c l = l.marked ≡ each_place false (λ k mark. mark && not (is_input l.job l.t k)) l.initial.marked l.c
