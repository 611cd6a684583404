-- What an admitted call meets: the job holds its rules, the run fits it, the records are within their bounds.
use Rattle.std.proofs.Common.{sym, ◌∙◌}
use Rattle.job.specs.Columns.{columns_of}
use Rattle.station.proofs.Admission.{admitted_job, admitted_not, ready, drain_admitted, drain_refused}
use Rattle.station.proofs.drain.Goals as goal

pub drain-requires : goal.drain-requires
drain-requires c = ready _ _ (admitted_job (columns_of c.args.lent.now) _ (sym c.in-Ok.is ∙ c.admit.ensures))

pub returns-in-Ok : goal.returns-in-Ok
returns-in-Ok c = c.drain.ensures ∙ drain_admitted _ _ (admitted_job (columns_of c.args.lent.now) _ (sym c.in-Ok.is ∙ c.admit.ensures)) c.args.limit

pub returns-in-Err : goal.returns-in-Err
returns-in-Err c =
    drain_refused _ _ (admitted_not (columns_of c.args.lent.now) c.args.run (sym c.in-Err.is ∙ c.admit.ensures)) c.into.ensures c.args.limit
