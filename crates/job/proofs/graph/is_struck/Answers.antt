use Rattle.std.proofs.Common.{rules, refl, ◌∙◌}
use Rattle.job.specs.Rules.{struck_before, strike}
use Rattle.job.proofs.Ranges.{all_over}
use Rattle.job.proofs.graph.is_struck.Goals as goal

pub returns-else-struck-t : goal.returns-else-struck-t
unfolding strike
returns-else-struck-t c =
    let job = c.args.job.now in
    all_over (struck_before job c.args.struck.now c.args.t) job.channels _ _ _ c.all.ensures.ran refl (λ x b q k. search rules)
    ∙ simp c.if-struck-t.false
