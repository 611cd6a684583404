-- A row, and the lines of two sets of totals; of the snapshot as many as are shown.
use Rattle.std.proofs.Common.{arith, ℕ, subst}
use Rattle.traced.specs.Lines.{lines_to, Writes}
use Rattle.traced.specs.Traces.{count_row, shown_of}
use Rattle.traced.proofs.Writing.{three_writes}
use Rattle.traced.proofs.trace.put_after.Goals as goal

pub returns : goal.returns
returns c =
    let a = c.args in
    let r = c.put_counts-next in
    let n = c.put_lines-then in
    let d = c.put_lines in
    let first = subst
    (λ (k : ℕ). Writes 2048 r.new.out r.result (lines_to a.first.now a.run.last k) n.new.out n.result)
    c.shown.ensures n.ensures in
    three_writes 128 2048 2048 a.out.now r.new.out n.new.out d.new.out a.at
    r.result n.result d.result
    (count_row a.word.now a.x a.y a.z)
    (lines_to a.first.now a.run.last (shown_of a.run.complete a.tasks))
    (lines_to a.second.now a.run.live a.tasks)
    (omega (arith, c.requires)) r.ensures first d.ensures
