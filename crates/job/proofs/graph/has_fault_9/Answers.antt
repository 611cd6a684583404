use Rattle.std.proofs.Common.{rules, ◌≤◌, length}
use lib.Dec.{ltb}
use Rattle.job.specs.Rules.{fault9}
use Rattle.job.proofs.Ranges.{any_within}
use Rattle.job.proofs.graph.has_fault_9.Goals as goal

pub returns : goal.returns
unfolding fault9
returns c =
    let worst = c.worst_counts-worst.result in
    let few : c.args.job.now.tasks ≤ length worst = search rules in
    rw (← c.worst_counts-worst.ensures) (any_within (ltb 1048576) worst 0 c.args.job.now.tasks _ _ _ c.any.ensures.ran (search rules) few (λ x b q k. search rules))
