use lib.ListN.{get_or}
use Rattle.run.specs.Runs.{no_channel}
use Rattle.outputs.specs.Outputs.{each_place}
use Rattle.flat.specs.Columns.{channels_in, Laid, ReadAs}
use Rattle.flat.proofs.laying.lay.Given as goal

abbrev pub invariant-loop-c : goal.invariant-loop-c
invariant-loop-c l =
    Laid l.initial.codes l.initial.held l.initial.heads l.initial.counts
    → ReadAs
    (each_place no_channel (λ k x. get_or l.channels k no_channel)
    (channels_in l.initial.codes l.initial.held l.initial.heads l.initial.counts) l.c)
    l.codes l.held l.heads l.counts
