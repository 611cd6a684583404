-- One channel more: on an output the cargo is put at its place, any other channel stays.
use Rattle.std.proofs.Common.{arith, true, false, sym, ◌≡◌, ◌∙◌}
use Rattle.job.specs.Jobs.{is_output}
use Rattle.outputs.proofs.Sending.{carried_here, not_here, place_here, place_not}
use Rattle.outputs.proofs.put_all.Goals as goal
use Rattle.outputs.proofs.put_all.Goals.{then-names, else-names}

pub loop-c-preserved : goal.loop-c-preserved
loop-c-preserved c =
    let job = c.args.job in
    let t = c.args.t in
    let l = c.loop-c in
    let named = sym c.names.ensures in
    elim c.if-names.branch [
      | then-names w ↦
          let o : is_output job t l.c ≡ true = named ∙ w.if-names.true in (
            w.held-is ∙ carried_here job t c.args.cargo c.args.held l.held l.c l.invariant.0 w.carried.result o (w.carried.ensures ∙ cc),
            w.place-is ∙ place_here job t l.c l.place o l.invariant.1,
            omega (arith, w.place-is, l.invariant.2),
          )
      | else-names w ↦
          let o : is_output job t l.c ≡ false = named ∙ w.if-names.false in (
            w.held-is ∙ not_here job t c.args.cargo c.args.held l.held l.c l.invariant.0 o,
            w.place-is ∙ place_not job t l.c l.place o l.invariant.1,
            omega (arith, w.place-is, l.invariant.2),
          )
    ]
