use Rattle.std.proofs.Common.{rules, tests, refl}
use Rattle.job.proofs.Ranges.{any_over}
use Rattle.drain.specs.Drains.{tasks_left}
use Rattle.drain.proofs.left.tasks_left.Goals as goal

pub returns : goal.returns
unfolding tasks_left
returns c = any_over _ _ _ _ _ c.any.ensures.ran refl (λ x b q k. search (rules, tests))
