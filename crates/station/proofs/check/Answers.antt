-- The check's own answer: 0 with a job, else the number of the line that refuses it.
use Rattle.std.proofs.Common.{sym, ◌∙◌}
use Rattle.job.specs.Columns.{columns_of}
use Rattle.job.proofs.Checks.{checked_job, checked_line}
use Rattle.station.proofs.check.Goals as goal

pub returns-in-Ok : goal.returns-in-Ok
returns-in-Ok c = sym (checked_job (columns_of c.args.lent.now) _ (sym c.in-Ok.is ∙ c.check.ensures)).zero_is

pub returns-in-Err : goal.returns-in-Err
returns-in-Err c = c.into.ensures ∙ (checked_line (columns_of c.args.lent.now) _ (sym c.in-Err.is ∙ c.check.ensures)).line_is
