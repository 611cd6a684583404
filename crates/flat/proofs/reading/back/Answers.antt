-- At the loop's end every channel was read back, and so the list is that of the columns.
use Rattle.std.proofs.Common.{rules, arith, ◌≡◌, ap, ◌∙◌}
use Rattle.channel.proofs.Lists.{counted}
use Rattle.run.specs.Runs.{no_channel}
use Rattle.outputs.specs.Outputs.{each_place}
use Rattle.flat.specs.Columns.{channel_in, channels_in}
use Rattle.flat.proofs.LaidOut.{each_table}
use Rattle.flat.proofs.reading.back.Goals as goal

pub returns : goal.returns
unfolding channels_in
returns c =
    let l = c.loop-c in
    let a = c.args in
    let e : l.c ≡ 32 = omega arith in
    l.invariant
    ∙ ap (each_place no_channel (λ k x. channel_in a.codes.now a.held.now a.heads.now a.counts.now k) a.channels) e
    ∙ each_table no_channel a.channels (channel_in a.codes.now a.held.now a.heads.now a.counts.now) 32 (search (rules, counted))
