use mathlib.Core.Path.{◌≡◌}
use Rattle.job.specs.Tests.{some}
use Rattle.job.specs.Columns.{number_of, bad_record}
use Rattle.job.proofs.columns.has_bad_record.Given as goal

abbrev pub invariant-loop-i : goal.invariant-loop-i
invariant-loop-i l = l.found ≡ some (λ k. bad_record (number_of l.records.cylinders.now k) (number_of l.records.values.now k)) l.i
