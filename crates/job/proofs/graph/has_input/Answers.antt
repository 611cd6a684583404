use Rattle.std.proofs.Common.{rules, refl}
use Rattle.job.specs.Rules.{has_input}
use Rattle.job.proofs.Ranges.{any_over}
use Rattle.job.proofs.graph.has_input.Goals as goal

pub returns : goal.returns
unfolding has_input
returns c = any_over _ _ _ _ _ c.any.ensures.ran refl (λ x b q k. search rules)
