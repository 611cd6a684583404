-- One channel more is laid out: its items, its head at place 0, its count.
use Rattle.std.proofs.Common.{rules, arith, ◌≡◌, ◌*◌, ◌<◌, sym, ap, ◌∙◌, subst, get_or}
use Rattle.std.proofs.Math.ListN.{set}
use Rattle.channel.proofs.Lists.{counted}
use Rattle.run.specs.Runs.{no_channel}
use Rattle.outputs.specs.Outputs.{each_place}
use Rattle.flat.specs.Columns.{channel_in, channels_in, ReadAs}
use Rattle.flat.specs.Lays.{code_of, cargo_at, fill_to}
use Rattle.flat.proofs.Tables.{length_table}
use Rattle.flat.proofs.LaidOut.{each_more, each_list, laid_channel}
use Rattle.flat.proofs.laying.lay.Goals as goal

pub loop-c-preserved : goal.loop-c-preserved
loop-c-preserved c laid =
    let l = c.loop-c in
    let a = c.args in
    let d = c.lay_items in
    let ch = get_or a.channels l.c no_channel in
    let so_far = channels_in l.codes l.held l.heads l.counts in
    let e = d.ensures in
    let less : l.c < 32 = search rules in
    let r = l.invariant laid in
    subst (λ x. ReadAs x d.new.codes d.new.held (set l.heads l.c 0) (set l.counts l.c ch.count))
    (ap (λ h. set h l.c ch) r.reads
    ∙ sym (each_more no_channel (channels_in a.codes.now a.held.now a.heads.now a.counts.now) (λ k. get_or a.channels k
    no_channel) l.c))
    (subst (λ w. ReadAs (set so_far l.c ch) w d.new.held (set l.heads l.c 0) (set l.counts l.c ch.count))
    (sym e.laid.0)
    (subst (λ v. ReadAs (set so_far l.c ch) (fill_to l.codes (l.c * 8) (λ k. code_of (cargo_at ch k)) 8) v (set l.heads l.c 0)
    (set l.counts l.c ch.count)) (sym e.laid.1)
    (laid_channel l.codes l.held l.heads l.counts l.c less r.laid ch e.items.0 e.items.1)))

pub returns : goal.returns
unfolding channels_in
returns c laid =
    let l = c.loop-c in
    let a = c.args in
    let e : l.c ≡ 32 = omega arith in
    subst (λ x. ReadAs x l.codes l.held l.heads l.counts)
    (ap (each_place no_channel (λ k x. get_or a.channels k no_channel) (channels_in a.codes.now a.held.now a.heads.now a.counts.now)) e
    ∙ each_list no_channel (channels_in a.codes.now a.held.now a.heads.now a.counts.now) a.channels 32 (length_table
    (channel_in a.codes.now a.held.now a.heads.now a.counts.now) 32) (search (rules, counted)))
    (l.invariant laid)
