-- What the check hands on: a job whose columns have their sizes, and counts that can be read; or the line that refuses it.
use Rattle.std.proofs.Common.{sym, ap, ◌∙◌}
use Rattle.job.specs.Columns.{columns_of}
use Rattle.job.proofs.Checks.{checked_job, checked_line}
use Rattle.direct.specs.Direct.{refused_with}
use Rattle.direct.proofs.Answers.{handed_sized, check_refused, readable}
use Rattle.direct.proofs.direct.Goals as goal

pub returns-in-Err : goal.returns-in-Err
returns-in-Err c =
    let J = columns_of c.args.lent.now in
    c.refused.ensures ∙ ap refused_with c.into.ensures
    ∙ check_refused J _ c.args.counts.now (checked_line J _ (sym c.in-Err.is ∙ c.check.ensures))

pub has_fault_35-requires : goal.has_fault_35-requires
has_fault_35-requires c = handed_sized _ _ (checked_job (columns_of c.args.lent.now) _ (sym c.in-Ok.is ∙ c.check.ensures))

pub all_read-totals-requires : goal.all_read-totals-requires
all_read-totals-requires c =
    readable _ _ (checked_job (columns_of c.args.lent.now) _ (sym c.in-Ok.is ∙ c.check.ensures)) _
    (sym c.has_fault_35.ensures ∙ c.if-has_fault_35.false)
