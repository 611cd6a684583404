-- Two rows, one after the other.
use mir.Facts.{to_z-of_z}
use Rattle.rows.proofs.Putting.{puts_both}
use Rattle.rows.proofs.put_refusal.Goals as goal

pub returns : goal.returns
returns c =
    puts_both c.args.out.now _ _ c.args.at _ _ _ _ c.requires c.put_row-next.ensures
    (simp (to_z-of_z c.ranges.answer) at c.put_numbers.ensures)
