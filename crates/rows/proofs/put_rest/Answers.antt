-- The fields, and what ends a row after them.
use Rattle.rows.specs.Rows.{fields_of, crlf}
use Rattle.rows.proofs.Putting.{puts_both}
use Rattle.rows.proofs.put_rest.Goals as goal

pub returns : goal.returns
returns c =
    puts_both c.args.out.now _ _ c.args.at _ _ (fields_of c.args.zs.now) crlf c.requires c.put_fields-end.ensures c.put_bytes.ensures
