-- What an admitted call meets: the job holds its rules, the run fits it, the records are within their bounds.
use Rattle.std.proofs.Common.{sym, ◌∙◌}
use Rattle.job.specs.Columns.{columns_of}
use Rattle.station.proofs.Admission.{admitted_job, admitted_not, ready, steps_admitted, steps_refused}
use Rattle.station.proofs.steps.Goals as goal

pub steps-requires : goal.steps-requires
steps-requires c = ready _ _ (admitted_job (columns_of c.args.lent.now) _ (sym c.in-Ok.is ∙ c.admit.ensures))

pub returns-in-Ok : goal.returns-in-Ok
returns-in-Ok c = c.steps.ensures ∙ steps_admitted _ _ (admitted_job (columns_of c.args.lent.now) _ (sym c.in-Ok.is ∙ c.admit.ensures)) c.args.numbers.now

pub returns-in-Err : goal.returns-in-Err
returns-in-Err c =
    steps_refused _ _ (admitted_not (columns_of c.args.lent.now) c.args.run (sym c.in-Err.is ∙ c.admit.ensures)) c.into.ensures c.args.numbers.now
