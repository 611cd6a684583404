use Rattle.std.proofs.Common.{rules, ap, false, ◌≤◌, length}
use mathlib.Core.Bool.{not}
use Rattle.job.specs.Rules.{fault8}
use Rattle.job.proofs.Ranges.{all_within}
use Rattle.job.proofs.graph.has_fault_8.Goals as goal

pub returns : goal.returns
unfolding fault8
returns c =
    let struck = c.struck_tasks-struck.result in
    let few : c.args.job.now.tasks ≤ length struck = search rules in
    rw (← c.struck_tasks-struck.ensures) (ap not (all_within (λ s. s) struck false c.args.job.now.tasks _ _ _ c.all.ensures.ran (search rules) few (λ x b q k. search rules)))
