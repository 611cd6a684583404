-- The check hands on an accepted job, whose columns have their sizes; then the fit decides.
use Rattle.std.proofs.Common.{sym, subst, ◌∙◌}
use Rattle.job.specs.Columns.{columns_of}
use Rattle.job.specs.Jobs.{JobSized}
use Rattle.job.proofs.Checks.{checked_job}
use Rattle.job.proofs.Fits.{accepted_fits}
use Rattle.station.proofs.Admission.{admit_fits, admit_16}
use Rattle.station.proofs.admit.Goals as goal

pub run_fits-requires : goal.run_fits-requires
run_fits-requires c =
    let J = columns_of c.args.lent.now in
    let A = checked_job J _ (sym c.in_ok-job.was ∙ c.check.ensures) in
    subst JobSized (sym A.job_is) (accepted_fits J A.zero_is).sends.sized

pub returns-then-run_fits : goal.returns-then-run_fits
returns-then-run_fits c =
    let J = columns_of c.args.lent.now in
    admit_fits J _ (checked_job J _ (sym c.in_ok-job.was ∙ c.check.ensures)) (sym c.run_fits.ensures ∙ c.if-run_fits.true)

pub returns : goal.returns
returns c =
    let J = columns_of c.args.lent.now in
    admit_16 J _ (checked_job J _ (sym c.in_ok-job.was ∙ c.check.ensures)) (sym c.run_fits.ensures ∙ c.if-run_fits.false)
