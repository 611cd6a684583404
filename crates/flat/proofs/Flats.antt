-- What columns say of the run that they stand for, and a store into them as a change of the run.
use mathlib.Core.Path.{◌≡◌, sym, ap, ◌∙◌}
use mathlib.Core.List.{List}
use Prim.Native.Nat.{ℕ, ◌+◌, ◌*◌, ◌%◌, ◌<◌}
use lib.Dec.{eqb}
use lib.IntN.{ℤ, pos}
use lib.ListN.{get_or, set, length}
use Rattle.channel.specs.declared.Channel.{Channel}
use Rattle.channel.specs.Channels.{barrier}
use Rattle.run.specs.declared.Run.{Run}
use Rattle.run.specs.Runs.{no_channel, with_channels}
use Rattle.run.specs.Fit.{channel_at}
use Rattle.outputs.proofs.Sending.{set_self}
use Rattle.flat.specs.declared.Flat.TheInside.{Inside}
use Rattle.flat.specs.Columns.{head_of, head_in, barrier_in, is_barrier, item_of, spot, item_in, channel_in, channels_in, ReadAs}
use Rattle.flat.proofs.Tables.{length_table, get_or-table}
use Rattle.flat.proofs.Rings.{head_at, barrier_there, barrier_is}

module _ (f : Inside) {now : Run} (stands : with_channels (channels_in f.codes f.held f.heads f.counts) f.run ≡ now)
    (c : ℕ) (small : c < 32) where
  pub seen : channel_in f.codes f.held f.heads f.counts c ≡ channel_at now c
  unfolding channels_in
  seen =
      sym (get_or-table (channel_in f.codes f.held f.heads f.counts) 32 c no_channel small) ∙ ap (λ (r : Run). channel_at r c) stands

  pub count_seen : get_or f.counts c 0 ≡ (channel_at now c).count
  unfolding channel_in
  count_seen = ap (λ (ch : Channel). ch.count) seen

  pub barrier_in_seen : barrier_in f.codes f.heads c ≡ is_barrier (head_of (channel_at now c))
  barrier_in_seen = barrier_is f.codes f.held f.heads f.counts c ∙ ap (λ ch. is_barrier (head_of ch)) seen

  pub barrier_seen : eqb (get_or f.codes (c * 8 + get_or f.heads c 0 % 8) 0) 0 ≡ is_barrier (head_of (channel_at now c))
  barrier_seen = barrier_there f.codes f.held f.heads f.counts c ∙ barrier_in_seen

  pub head_seen : head_in f.codes f.held f.heads c ≡ head_of (channel_at now c)
  head_seen = sym (head_at f.codes f.held f.heads f.counts c) ∙ ap head_of seen

  pub item_seen : (k : ℕ) → k < 8
      → item_of (get_or f.codes (spot c (get_or f.heads c 0) k) 0) (get_or f.held (spot c (get_or f.heads c 0) k) (pos 0))
      ≡ get_or (channel_at now c).items k barrier
  unfolding channel_in item_in
  item_seen k h =
      sym (get_or-table (item_in f.codes f.held c (get_or f.heads c 0)) 8 k barrier h)
      ∙ ap (λ (ch : Channel). get_or ch.items k barrier) seen

  pub wide_seen : length (channel_at now c).items ≡ 8
  unfolding channel_in
  wide_seen = ap (λ (ch : Channel). length ch.items) (sym seen) ∙ length_table (item_in f.codes f.held c (get_or f.heads c 0)) 8

  -- what reads as the columns with another channel c stands for the run with it
  pub changed : (g : Channel → Channel) {codes' : List ℕ} {held' : List ℤ} {heads' counts' : List ℕ}
      → ReadAs (set (channels_in f.codes f.held f.heads f.counts) c (g (channel_in f.codes f.held f.heads f.counts c)))
      codes' held' heads' counts'
      → with_channels (channels_in codes' held' heads' counts') f.run ≡ with_channels (set now.channels c (g (channel_at now c))) now
  changed g r =
      ap (λ h. with_channels h f.run) (r.reads ∙ ap (λ ch. set (channels_in f.codes f.held f.heads f.counts) c (g ch)) seen)
      ∙ ap (λ (x : Run). with_channels (set x.channels c (g (channel_at now c))) x) stands

module _ (f : Inside) {now : Run} (stands : with_channels (channels_in f.codes f.held f.heads f.counts) f.run ≡ now) where
  pub all_seen : length now.channels ≡ 32
  unfolding channels_in
  all_seen = ap (λ (r : Run). length r.channels) (sym stands) ∙ length_table (channel_in f.codes f.held f.heads f.counts) 32

  pub read_back : (chans : List Channel) → chans ≡ now.channels → with_channels chans f.run ≡ now
  read_back chans e = ap (λ h. with_channels h f.run) (e ∙ ap (λ (r : Run). r.channels) (sym stands)) ∙ stands

-- a channel that is put back leaves the run as it is
pub same_run : (run : Run) (c : ℕ) (ch : Channel) → ch ≡ channel_at run c → run ≡ with_channels (set run.channels c ch) run
same_run run c ch e =
    sym (ap (λ h. with_channels h run) (ap (set run.channels c) e ∙ set_self run.channels c no_channel))
