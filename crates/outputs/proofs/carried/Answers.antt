-- What is told by the task's numbers is what the rules say of the job.
use Rattle.std.proofs.Common.{rules, ap₂, ◌∙◌, ℤ, w32, FitsSigned}
use mir.Facts.{to_z-of_z}
use Rattle.job.specs.Jobs.{kind_of, a_of, b_of}
use Rattle.outputs.specs.Parts.{put_by}
use Rattle.outputs.proofs.Sending.{put_by_lem}
use Rattle.outputs.proofs.carried.Goals as goal

pub returns : goal.returns
returns c =
    let job = c.args.job.now in
    let t = c.args.t in
    let x : FitsSigned w32 (a_of job t) = search rules in
    let y : FitsSigned w32 (b_of job t) = search rules in
    c.put_cargo.ensures
    ∙ ap₂ (λ (a b : ℤ). put_by (kind_of job t) a b c.args.place c.args.outputs c.args.cargo c.args.ch) (to_z-of_z x) (to_z-of_z y)
    ∙ put_by_lem job t c.args.place c.args.outputs c.args.cargo c.args.ch
