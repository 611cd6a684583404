use mathlib.Core.Path.{◌≡◌}
use Rattle.run.specs.Runs.{no_channel}
use Rattle.outputs.specs.Outputs.{each_place}
use Rattle.flat.specs.Columns.{channel_in}
use Rattle.flat.proofs.reading.back.Given as goal

abbrev pub invariant-loop-c : goal.invariant-loop-c
invariant-loop-c l = l.channels ≡ each_place no_channel (λ k x. channel_in l.codes l.held l.heads l.counts k) l.initial.channels l.c
