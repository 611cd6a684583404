-- The loop has written the fields before this one.
use Rattle.std.proofs.Common.{◌≡◌, length, take}
use Rattle.rows.specs.Buffers.{Puts}
use Rattle.rows.specs.Rows.{fields_of}
use Rattle.rows.proofs.put_fields.Given as goal

abbrev pub invariant-loop-z : goal.invariant-loop-z
invariant-loop-z l =
    (length l.out ≡ length l.fn.out) × Puts l.fn.out l.at (fields_of (take l.z-index l.zs)) l.out l.next
