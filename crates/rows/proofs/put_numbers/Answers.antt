-- The number, and the rest of the row after it.
use Rattle.std.proofs.Common.{◌++◌}
use mir.Facts.{to_z-of_z}
use Rattle.rows.specs.Decimals.{decimal}
use Rattle.rows.specs.Rows.{fields_of, crlf}
use Rattle.rows.proofs.Putting.{puts_both}
use Rattle.rows.proofs.put_numbers.Goals as goal

pub returns : goal.returns
returns c =
    puts_both c.args.out.now _ _ c.args.at _ _ (decimal c.args.z) (fields_of c.args.zs.now ++ crlf) c.requires
    (simp (to_z-of_z c.ranges.z) at c.put_number-next.ensures)
    c.put_rest.ensures
