-- At the loop's end every item was read back, and so the items are the ring.
use Rattle.std.proofs.Common.{arith, ◌≡◌, ap, ◌∙◌, get_or}
use mathlib.Core.Path.{refl}
use Rattle.channel.specs.Channels.{barrier}
use Rattle.outputs.specs.Outputs.{each_place}
use Rattle.flat.specs.Columns.{item_in, channel_in}
use Rattle.flat.proofs.Rings.{chan}
use Rattle.flat.proofs.LaidOut.{each_table}
use Rattle.flat.proofs.reading.channel_at.Goals as goal

pub returns : goal.returns
unfolding channel_in
returns c =
    let l = c.loop-k in
    let a = c.args in
    let item = item_in a.codes.now a.held.now a.c (get_or a.heads.now a.c 0) in
    let e : l.k ≡ 8 = omega arith in
    ap (λ items. chan items (get_or a.counts.now a.c 0))
    (l.invariant ∙ ap (each_place barrier (λ k x. item k) _) e ∙ each_table barrier _ item 8 refl)
