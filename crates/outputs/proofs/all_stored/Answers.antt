use Rattle.std.proofs.Common.{rules, tests, ◌≤◌, length, ltb}
use Rattle.job.proofs.Ranges.{all_within}
use Rattle.outputs.specs.Outputs.{all_stored}
use Rattle.outputs.proofs.all_stored.Goals as goal

pub returns : goal.returns
unfolding all_stored
returns c =
    let stored = c.args.stored in
    let few : c.args.job.tasks ≤ length stored = search rules in
    all_within (ltb 0) stored 0 c.args.job.tasks _ _ _ c.all.ensures.ran (search rules) few (λ x b q k. search (rules, tests))
