use Rattle.std.proofs.Common.{rules, tests, refl}
use Rattle.run.specs.Fit.{tasks_fit}
use Rattle.job.proofs.Ranges.{all_over}
use Rattle.run.proofs.fit.tasks_fit.Goals as goal

pub returns : goal.returns
unfolding tasks_fit
returns c = all_over _ _ _ _ _ c.all.ensures.ran refl (λ x b q k. search (rules, tests))
