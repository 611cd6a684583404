-- A delivery takes the head of its channel.
use Rattle.std.proofs.Common.{ap, ◌∙◌}
use lib.ListN.{set}
use Rattle.channel.specs.Channels.{without_head}
use Rattle.run.specs.Runs.{with_channels}
use Rattle.run.specs.Fit.{channel_at}
use Rattle.drain.proofs.Asking.{left_low}
use Rattle.drain.proofs.sending.take_for.Goals as goal

pub returns-then-n-lt32 : goal.returns-then-n-lt32
returns-then-n-lt32 c =
    let run = c.args.flat.now in
    c.take.ensures
    ∙ ap (λ k. with_channels (set run.channels k (without_head (channel_at run k)).channel) run) c.from.ensures
    ∙ ap (λ chans. with_channels chans run) (left_low run.channels (channel_at run) c.args.n c.if-n-lt32.true)
