use Rattle.drain.specs.Turns.{Goes}
use Rattle.drain.proofs.turns.turns.Given as goal

abbrev pub invariant-loop-steps : goal.invariant-loop-steps
invariant-loop-steps l = Goes l.job l.records.cylinders.now l.records.values.now l.initial.flat l.limit l.start l.steps l.flat
