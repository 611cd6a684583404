use Rattle.std.proofs.Common.{rules, refl}
use Rattle.job.specs.Columns.{fault3}
use Rattle.job.proofs.Ranges.{any_over}
use Rattle.job.proofs.columns.has_fault_3.Goals as goal

pub returns : goal.returns
unfolding fault3
returns c = any_over _ _ _ _ _ c.any.ensures.ran refl (λ x b q k. search rules)
