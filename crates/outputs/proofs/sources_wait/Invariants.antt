use mathlib.Core.Path.{◌≡◌}
use Rattle.job.specs.Jobs.{is_source}
use Rattle.outputs.specs.Outputs.{each_place, one_more_waits}
use Rattle.outputs.proofs.sources_wait.Given as goal

abbrev pub invariant-loop-t : goal.invariant-loop-t
invariant-loop-t l =
    l.waiting ≡ each_place 0 (λ k waits. one_more_waits l.under_way (is_source l.job k) waits) l.initial.waiting l.t
