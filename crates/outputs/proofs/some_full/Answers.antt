use Rattle.std.proofs.Common.{rules, tests, refl}
use Rattle.job.proofs.Ranges.{any_over}
use Rattle.outputs.specs.Outputs.{some_full}
use Rattle.outputs.proofs.some_full.Goals as goal

pub returns : goal.returns
unfolding some_full
returns c = any_over _ _ _ _ _ c.any.ensures.ran refl (λ x b q k. search (rules, tests))
