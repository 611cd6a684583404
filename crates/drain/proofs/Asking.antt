-- Small laws of the test of a step and of what a step leaves behind.
use mathlib.Core.Path.{◌≡◌, sym}
use mathlib.Core.Bool.{Bool}
use mathlib.Core.List.{List}
use Prim.Native.Nat.{ℕ, ◌+◌, ◌<◌, ◌≤◌}
use native.Mathlib.Numerals.{add-one}
use lib.ListN.{get_or, set}
use borrow.Author.Tests.{lt-ltb, le-ltb}
use Rattle.channel.specs.declared.Channel.{Channel}
use Rattle.channel.specs.Channels.{without_head}
use Rattle.drain.specs.Sending.{left_on}
use Rattle.run.specs.Runs.{no_channel}
use Rattle.drain.specs.Ready.{channel_by, noted_by, noted_to}

pub noted_more : (full : List Bool) (from : List ℕ) (chans : List Channel) (c : ℕ)
    → noted_to full from chans (c + 1) ≡ noted_by (noted_to full from chans c) from c (get_or chans c no_channel).count
unfolding noted_to
noted_more full from chans c = rw add-one

-- what a step leaves on the channel that it takes from, or on channel 0
pub left_low : (chans : List Channel) (at : ℕ → Channel) (n : ℕ) → n < 32
    → set chans n (without_head (at n)).channel ≡ set chans (channel_by n) (left_on n (at (channel_by n)))
unfolding left_on
left_low chans at n l = sym (simp (lt-ltb n 32 l))

pub left_high : (n : ℕ) (ch : Channel) → 32 ≤ n → left_on n ch ≡ ch
unfolding left_on
left_high n ch l = simp (le-ltb n 32 l)
