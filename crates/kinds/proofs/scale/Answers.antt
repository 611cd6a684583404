-- The quotient fits 32 bits, and `1i32 << a` is the power of two.
use Rattle.std.proofs.Common.{w32}
use mir.Facts.{to_z-of_z, to_z_pos}
use Rattle.std.specs.Prelude.{nat_abs, ◌^◌}
use Rattle.kinds.proofs.Ints.{quot_fits, scale_pow, scale_one}
use Rattle.kinds.proofs.scale.Goals as goal

pub returns : goal.returns
returns c =
    let a = c.args.a in
    simp (
      scale_one a c.requires,
      to_z_pos w32 (scale_pow a c.requires),
      to_z-of_z c.ranges.value,
      to_z-of_z (quot_fits c.args.value (2 ^ nat_abs a) c.ranges.value),
    )
