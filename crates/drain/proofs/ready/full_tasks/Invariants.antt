use mathlib.Core.Path.{◌≡◌}
use Rattle.drain.specs.Ready.{noted_to}
use Rattle.drain.proofs.ready.full_tasks.Given as goal

abbrev pub invariant-loop-c : goal.invariant-loop-c
invariant-loop-c l = l.full ≡ noted_to l.initial.full l.job.from l.flat.channels l.c
