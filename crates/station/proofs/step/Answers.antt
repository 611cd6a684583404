-- What an admitted call meets: the job holds its rules, the run fits it, the records are within their bounds.
use Rattle.std.proofs.Common.{sym, ◌∙◌}
use Rattle.job.specs.Columns.{columns_of}
use Rattle.station.proofs.Admission.{admitted_job, admitted_not, ready, step_admitted, step_refused}
use Rattle.station.proofs.step.Goals as goal

pub step-requires : goal.step-requires
step-requires c = ready _ _ (admitted_job (columns_of c.args.lent.now) _ (sym c.in-Ok.is ∙ c.admit.ensures))

pub returns-in-Ok : goal.returns-in-Ok
returns-in-Ok c = c.step.ensures ∙ step_admitted _ _ (admitted_job (columns_of c.args.lent.now) _ (sym c.in-Ok.is ∙ c.admit.ensures)) c.args.n

pub returns-in-Err : goal.returns-in-Err
returns-in-Err c =
    step_refused _ _ (admitted_not (columns_of c.args.lent.now) c.args.run (sym c.in-Err.is ∙ c.admit.ensures)) c.into.ensures c.args.n
