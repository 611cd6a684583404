use Rattle.std.proofs.Common.{rules, tests, refl}
use Rattle.job.proofs.Ranges.{all_over}
use Rattle.outputs.specs.Parts.{all_marked_by}
use Rattle.outputs.proofs.parts.all_marked.Goals as goal

pub returns : goal.returns
unfolding all_marked_by
returns c = all_over _ _ _ _ _ c.all.ensures.ran refl (λ x b q k. search (rules, tests))
