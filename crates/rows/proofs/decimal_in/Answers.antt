-- What the library prints is the number's shortest decimal.
use Rattle.std.proofs.Common.{ap, ◌∙◌}
use Rattle.std.specs.Fmt.{signed_decimal}
use mir.Facts.{to_z-of_z}
use Rattle.rows.proofs.Printed.{decimal_printed}
use Rattle.rows.proofs.decimal_in.Goals as goal

pub returns : goal.returns
returns c =
    c.as_bytes.ensures.value ∙ c.format.ensures.text ∙ ap signed_decimal (to_z-of_z c.ranges.z) ∙ decimal_printed c.args.z c.ranges.z
