-- The record stands behind the last item of its ring.
use Rattle.std.proofs.Common.{rules, ◌+◌, sym, subst, get_or}
use Rattle.std.proofs.Math.ListN.{set}
use Rattle.channel.specs.declared.Cargo.TheVariants.{Record as Recorded}
use Rattle.channel.specs.Channels.{with_item}
use Rattle.flat.specs.Columns.{spot, channel_in, channels_in, ReadAs}
use Rattle.flat.proofs.Rings.{puts}
use Rattle.flat.proofs.put.Goals as goal

pub returns : goal.returns
returns c laid =
    let a = c.args in
    let n = get_or a.counts.now a.c 0 in
    let p = spot a.c (get_or a.heads.now a.c 0) n in
    let chans = set (channels_in a.codes.now a.held.now a.heads.now a.counts.now) a.c
    (with_item (channel_in a.codes.now a.held.now a.heads.now a.counts.now a.c) (record { cargo = Recorded a.got })
    ).channel in
    let e = c.store.ensures.stored in
    subst (λ x. ReadAs chans x c.store.new.held a.heads.now (set a.counts.now a.c (n + 1))) (sym e.0)
    (subst (λ y. ReadAs chans (set a.codes.now p (a.got.cylinder + 1)) y a.heads.now (set a.counts.now a.c (n + 1)))
    (sym e.1)
    (puts a.codes.now a.held.now a.heads.now a.counts.now a.c c.requires laid (search rules) a.got (search rules)))
