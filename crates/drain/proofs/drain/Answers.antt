-- It is over; or a barrier goes through the plain step, and the drain that goes on after it ends as before.
use Rattle.std.proofs.Common.{arith, ◌+◌, ◌-◌, eqb, sym, ap, ◌∙◌, subst}
use Rattle.run.specs.Fit.{Fits}
use Rattle.step.specs.declared.Stepped.{Stepped}
use Rattle.step.specs.Step.{stepped}
use Rattle.step.proofs.Keeps.{stepped_fits}
use Rattle.drain.specs.Drains.{lowest, ended, drained_of}
use Rattle.drain.specs.Turns.{last_answer, Stops}
use Rattle.drain.proofs.Draining.{ends, goes_on, one_step}
use Rattle.drain.proofs.Brings.{possible_left}
use Rattle.drain.proofs.drain.Goals as goal

pub returns-in_default : goal.returns-in_default
returns-in_default c =
    let a = c.args in
    let cs = a.records.now.cylinders.now in
    let vs = a.records.now.values.now in
    let w = c.records-went.result in
    let e = c.records-went.ensures in
    let spent = eqb w.steps a.limit in
    ap (λ k. ended k w.run w.steps) (c.last_answer.ensures ∙ ap (λ b. last_answer b spent) c.some_left-left.ensures)
    ∙ sym (ends a.job cs vs a.limit w.steps w.run e.goes.within (subst (Stops a.job cs vs a.limit w.steps w.run) c.in_default.is e.stops))
    ∙ e.goes.rest ∙ c.loop-n.invariant.2

pub loop-n-preserved : goal.loop-n-preserved
loop-n-preserved c =
    let a = c.args in
    let cs = a.records.now.cylinders.now in
    let vs = a.records.now.values.now in
    let w = c.records-went.result in
    let g = c.records-went.ensures.goes in
    let n = c.in-Some.n in
    let stops = subst (Stops a.job cs vs a.limit w.steps w.run) c.in-Some.is c.records-went.ensures.stops in
    let on = goes_on a.job cs vs a.limit w.steps w.run g.within n stops.0 stops.1 in
    let e = ap (λ (s : Stepped). s.run) c.step.ensures ∙ ap (λ k. (stepped a.job cs vs w.run k).run) stops.0 in
    let left = possible_left a.job cs vs w.run n c.requires.0 g.fits on.1 on.0 in
    let more = one_step a.job cs vs a.limit w.steps w.run on.2 left (λ q. omega (arith, on.0, stops.0, q)) in (
      omega (arith, on.2),
      subst (Fits a.job) (sym e) (stepped_fits a.job cs vs w.run (lowest a.job cs vs w.run) c.requires.0 c.requires.2 g.fits),
      ap (drained_of a.job cs vs (a.limit - (w.steps + 1)) (w.steps + 1)) e ∙ sym more ∙ g.rest ∙ c.loop-n.invariant.2,
    )
