-- One step more is done, and its row written.
use Rattle.std.proofs.Common.{arith, ℕ, List, ◌*◌, ◌∙◌, subst}
use Rattle.job.specs.Columns.{columns_of}
use Rattle.rows.specs.Buffers.{Puts}
use Rattle.traced.specs.Traces.{step_rows}
use Rattle.traced.proofs.Writing.{then}
use Rattle.traced.proofs.Stepping.{run_more, rows_more}
use Rattle.traced.proofs.trace.put_steps.Goals as goal

pub loop-n-preserved : goal.loop-n-preserved
loop-n-preserved c =
    let d = c.put_step-next in
    let l = c.loop-n in
    let a = c.args in
    let s = c.step-s in
    let J = columns_of a.lent.now in
    let w = then (128 * l.n-index) 128 a.out.now l.out a.at l.next (step_rows J a.numbers.now l.n-index)
    (omega (arith, c.requires, l.invariant)) l.invariant.2 d.new.out d.result _ d.ensures in (
      d.auto.out ∙ l.invariant.0,
      run_more J a.numbers.now l.n-index l.run s.result l.invariant.1 s.ensures,
      (
        subst (λ (t : List ℕ). Puts a.out.now a.at t d.new.out d.result)
            (rows_more J a.numbers.now l.n-index l.run s.result l.invariant.1 s.ensures)
            w.0,
        omega (arith, w.1),
      ),
    )
