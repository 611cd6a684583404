use Rattle.std.proofs.Common.{rules, tests, ◌≤◌, length}
use borrow.Author.Tests.{le-leb, lt-leb}
use Rattle.channel.specs.Channels.{barrier}
use Rattle.run.specs.Fit.{cargo_fits, channel_fits}
use Rattle.job.proofs.Ranges.{all_within}
use Rattle.run.proofs.fit.channel_fits.Goals as goal

pub returns-then-ch-le8 : goal.returns-then-ch-le8
unfolding channel_fits
returns-then-ch-le8 c =
    let ch = c.args.ch in
    let few : ch.count ≤ length ch.items = search rules in
    simp (le-leb ch.count 8 c.if-ch-le8.true)
    (all_within (λ item. cargo_fits item.cargo) ch.items barrier ch.count _ _ _ c.all.ensures.ran (search rules) few (λ x b q k. search (rules, tests)))

pub returns-else-ch-le8 : goal.returns-else-ch-le8
unfolding channel_fits
returns-else-ch-le8 c = simp (lt-leb _ _ c.if-ch-le8.false)
