-- What the fit says of one item: a record's cylinder is 1 to 20 and its value one of 32 bits.
use mathlib.Core.Path.{◌≡◌}
use mathlib.Core.Bool.{true, ◌&&◌}
use Prim.Native.Nat.{◌≤◌}
use borrow.Author.Tests.{leb-true}
use lib.Dec.{leb}
use Rattle.tally.specs.declared.Record.{Record}
use Rattle.kinds.specs.Kinds.{is_value}
use Rattle.channel.specs.declared.Cargo.TheVariants.{Record as Recorded}
use Rattle.job.proofs.Bools.{both_true}
use Rattle.run.specs.Fit.{cargo_fits}

module _ (r : Record) (e : cargo_fits (Recorded r) ≡ true) where
  both : (leb 1 r.cylinder && leb r.cylinder 20 ≡ true) × (is_value r.value ≡ true)
  both = both_true (leb 1 r.cylinder && leb r.cylinder 20) (is_value r.value) e

  pub cylinder_from_1 : 1 ≤ r.cylinder
  cylinder_from_1 = leb-true 1 r.cylinder (both_true (leb 1 r.cylinder) (leb r.cylinder 20) both.0).0

  pub cylinder_to_20 : r.cylinder ≤ 20
  cylinder_to_20 = leb-true r.cylinder 20 (both_true (leb 1 r.cylinder) (leb r.cylinder 20) both.0).1

  pub value_fits : is_value r.value ≡ true
  value_fits = both.1
