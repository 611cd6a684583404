use Rattle.std.proofs.Common.{rules, refl}
use Rattle.job.specs.Rules.{fault7}
use Rattle.job.proofs.Ranges.{any_over}
use Rattle.job.proofs.graph.has_fault_7.Goals as goal

pub returns : goal.returns
unfolding fault7
returns c = any_over _ _ _ _ _ c.any.ensures.ran refl (λ x b q k. search rules)
