-- What lines 1 to 6 leave: every number fits its place in the job by value.
use Rattle.std.proofs.Common.{rules, ◌∙◌, sym, subst, ap}
use Rattle.job.specs.Columns.{columns_of}
use Rattle.job.specs.Jobs.{JobSized}
use Rattle.job.specs.Faults.{found}
use Rattle.job.specs.Rules.{graph_faults, first_fault}
use Rattle.job.proofs.Fine.{fine, small, sized}
use Rattle.job.proofs.Checks.{none_found, column_refused, graph_refused}
use Rattle.job.proofs.check.Goals as goal

pub returns-in_err-check_columns : goal.returns-in_err-check_columns
returns-in_err-check_columns c =
    let e = column_refused (columns_of c.args.lent.now) _ (sym (c.in_err-check_columns.was) ∙ c.check_columns.ensures) in
    search rules

pub job_of-job-requires : goal.job_of-job-requires
job_of-job-requires c = small _ (fine _ (none_found _ (sym (c.in_ok-check_columns.was) ∙ c.check_columns.ensures)))

pub check_graph-requires : goal.check_graph-requires
check_graph-requires c =
    subst JobSized (sym c.job_of-job.ensures) (sized _ (fine _ (none_found _ (sym (c.in_ok-check_columns.was) ∙ c.check_columns.ensures))))

pub returns-in_err-check_graph : goal.returns-in_err-check_graph
returns-in_err-check_graph c =
    let p = sym (c.in_ok-check_columns.was) ∙ c.check_columns.ensures in
    let q = sym (c.in_err-check_graph.was) ∙ c.check_graph.ensures
    ∙ ap (λ job. found (first_fault (graph_faults job) 7)) c.job_of-job.ensures in
    let e = graph_refused (columns_of c.args.lent.now) _ p q in
    search rules
