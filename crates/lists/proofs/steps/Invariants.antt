use mathlib.Core.Path.{◌≡◌}
use Rattle.lists.specs.Lists.{listed_to}
use Rattle.lists.proofs.steps.Given as goal

abbrev pub invariant-loop-n : goal.invariant-loop-n
invariant-loop-n l = l.l ≡ listed_to l.job l.records.cylinders.now l.records.values.now l.initial.l.run l.numbers l.n-index
