use mathlib.Core.Path.{◌≡◌}
use lib.ListN.{get_or}
use Rattle.channel.specs.Channels.{barrier}
use Rattle.outputs.specs.Outputs.{each_place}
use Rattle.flat.specs.Columns.{item_in}
use Rattle.flat.proofs.reading.channel_at.Given as goal

abbrev pub invariant-loop-k : goal.invariant-loop-k
invariant-loop-k l = l.items ≡ each_place barrier (λ k x. item_in l.codes l.held l.c (get_or l.heads l.c 0) k) l.initial.items l.k
