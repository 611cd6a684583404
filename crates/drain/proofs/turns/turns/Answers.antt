-- A turn of the loop: the search found the lowest possible step; what it brings is taken in.
use Rattle.std.proofs.Common.{sym, ◌∙◌}
use Rattle.drain.proofs.Onward.{none_next, turn_next, inside, room_is, cylinder_is, goes_more}
use Rattle.drain.proofs.turns.turns.Goals as goal

pub returns-in_default : goal.returns-in_default
returns-in_default c =
    let g = c.loop-steps.invariant in
    record { goes = g; stops = none_next c.requires.fits.0 g (sym c.next.ensures ∙ c.in_default.is) }

pub bring-requires-clause-inside : goal.bring-requires-clause-inside
bring-requires-clause-inside c =
    let f = c.requires.fits in
    let turn = turn_next f.0 c.loop-steps.invariant f.1 c.in-Some.n (sym c.next.ensures ∙ c.in-Some.is) c.loop-steps-test.true in
    inside turn c.task_of-t.result c.task_of-t.ensures.0

pub returns-in-Barrier : goal.returns-in-Barrier
returns-in-Barrier c =
    let f = c.requires.fits in
    let g = c.loop-steps.invariant in
    let turn = turn_next f.0 g f.1 c.in-Some.n (sym c.next.ensures ∙ c.in-Some.is) c.loop-steps-test.true in
    record { goes = g; stops = (turn.low, turn.on) }

pub forward-requires-clause-sends : goal.forward-requires-clause-sends
forward-requires-clause-sends c =
    let f = c.requires.fits in
    let t = c.task_of-t in
    let turn = turn_next f.0 c.loop-steps.invariant f.1 c.in-Some.n (sym c.next.ensures ∙ c.in-Some.is) c.loop-steps-test.true in (
      t.ensures.1,
      f.0.sends,
      cylinder_is turn t.result t.ensures.0 c.in-Record.got (sym c.bring.ensures ∙ c.in-Record.is),
      c.all_outputs-outs.ensures t.result t.ensures.1,
    )

pub forward-requires-clause-room : goal.forward-requires-clause-room
forward-requires-clause-room c =
    let f = c.requires.fits in
    let turn = turn_next f.0 c.loop-steps.invariant f.1 c.in-Some.n (sym c.next.ensures ∙ c.in-Some.is) c.loop-steps-test.true in
    room_is turn c.task_of-t.result c.task_of-t.ensures.0 c.in-Record.got (sym c.bring.ensures ∙ c.in-Record.is)

pub loop-steps-preserved : goal.loop-steps-preserved
loop-steps-preserved c =
    let f = c.requires.fits in
    let turn = turn_next f.0 c.loop-steps.invariant f.1 c.in-Some.n (sym c.next.ensures ∙ c.in-Some.is) c.loop-steps-test.true in
    goes_more turn c.task_of-t.result c.task_of-t.ensures.0 c.in-Record.got (sym c.bring.ensures ∙ c.in-Record.is) _ c.forward.ensures
