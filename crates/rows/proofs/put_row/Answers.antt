-- The word, and the rest of the row after it.
use Rattle.std.proofs.Common.{◌++◌}
use Rattle.rows.specs.Rows.{fields_of, crlf}
use Rattle.rows.proofs.Putting.{puts_both}
use Rattle.rows.proofs.put_row.Goals as goal

pub returns : goal.returns
returns c =
    puts_both c.args.out.now _ _ c.args.at _ _ c.args.word.now (fields_of c.args.zs.now ++ crlf) c.requires
    c.put_bytes-next.ensures
    c.put_rest.ensures
