-- A part of the buffer is the bytes now, and the rest is as it was.
use Rattle.std.proofs.Common.{refl, arith}
use Rattle.rows.proofs.Putting.{put_part}
use Rattle.rows.proofs.put_bytes.Goals as goal

pub returns : goal.returns
returns c = (refl, put_part c.args.out.now c.args.at c.args.bytes.now _ _ c.copy_from_slice.ensures.after (omega arith))
