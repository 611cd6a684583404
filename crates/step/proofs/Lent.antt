-- What a source reads fits: a lent record has a cylinder 1 to 20 and a 32-bit value, and the next record lies within the source's part.
use mathlib.Core.Path.{◌≡◌, ap₂}
use mathlib.Core.Bool.{true, ◌&&◌}
use mathlib.Core.List.{List}
use Prim.Native.Nat.{ℕ, ◌+◌, ◌<◌, ◌≤◌}
use native.Mathlib.Omega.{arith}
use borrow.Author.Tests.{le-leb}
use lib.IntN.{ℤ, nat_abs}
use lib.ListN.{length}
use Rattle.channel.specs.declared.Cargo.TheVariants.{Record as Recorded}
use Rattle.job.specs.declared.Job.{Job}
use Rattle.job.specs.Columns.{number_of, record_at, RecordsFit}
use Rattle.job.specs.Jobs.{a_of, b_of, is_source}
use Rattle.job.specs.Fits.{JobFits}
use Rattle.job.proofs.Ints.{within_nat_abs, within_one, one_nat_abs}
use Rattle.run.specs.Fit.{cargo_fits}

pub record_fits : (c v : List ℤ) (i : ℕ) → RecordsFit c v → i < length c → cargo_fits (Recorded (record_at c v i)) ≡ true
record_fits c v i R l =
    let w = R.cylinders i l in
    ap₂ ◌&&◌
    (ap₂ ◌&&◌ (le-leb 1 (nat_abs (number_of c i)) (one_nat_abs (number_of c i) w))
    (le-leb (nat_abs (number_of c i)) 20 (within_nat_abs (number_of c i) 20 (within_one (number_of c i) w))))
    (R.values i l)

-- the record at an offset below b
pub inside_part : (job : Job) (records t offset : ℕ) → JobFits job records → t < job.tasks → is_source job t ≡ true
    → offset < nat_abs (b_of job t) → nat_abs (a_of job t) + offset < records
inside_part job records t offset J l e h = omega (arith, (J.parts t l e).inside)

pub part_short : (job : Job) (records t : ℕ) → JobFits job records → t < job.tasks → is_source job t ≡ true → nat_abs (b_of job t) ≤ 4096
part_short job records t J l e = (J.parts t l e).length
