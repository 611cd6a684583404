-- A list of steps: it keeps a fitting run fitting, and each of its two numbers is at most the number of steps.
use mathlib.Core.Path.{◌≡◌, ap}
use mathlib.Core.Bool.{not}
use mathlib.Core.List.{List}
use Prim.Native.Nat.{ℕ, zero, suc, ◌+◌, ◌≤◌}
use native.Mathlib.Numerals.{add-one}
use native.Mathlib.Omega.{arith}
use lib.IntN.{ℤ}
use lib.ListN.{length, get_or}
use Rattle.job.specs.declared.Job.{Job}
use Rattle.job.specs.Columns.{RecordsFit}
use Rattle.job.specs.Fits.{JobFits}
use Rattle.job.proofs.Ints.{byte_le}
use Rattle.run.specs.declared.Run.{Run}
use Rattle.run.specs.Fit.{Fits}
use Rattle.step.specs.Step.{stepped}
use Rattle.step.proofs.Keeps.{stepped_fits}
use Rattle.lists.specs.declared.Listed.{Listed}
use Rattle.lists.specs.Lists.{is_done, counted, listed_to}

module _ (job : Job) (c v : List ℤ) (run : Run) (numbers : List ℕ) where
  pub listed_more : (k : ℕ) {l : Listed} → l ≡ listed_to job c v run numbers k
      → counted l (stepped job c v l.run (get_or numbers k 0)) ≡ listed_to job c v run numbers (k + 1)
  unfolding listed_to
  listed_more k e = rw add-one (ap (λ (l : Listed). counted l (stepped job c v l.run (get_or numbers k 0))) e)

  pub listed_fits : JobFits job (length c) → RecordsFit c v → Fits job run → (k : ℕ) → Fits job (listed_to job c v run numbers k).run
  unfolding listed_to
  listed_fits J R F zero = F
  listed_fits J R F (suc k) = stepped_fits job c v _ (get_or numbers k 0) J R (listed_fits J R F k)

  pub done_few : (k : ℕ) → (listed_to job c v run numbers k).done ≤ k
  unfolding listed_to
  done_few zero = omega arith
  done_few (suc k) =
      omega (
        arith,
        done_few k,
        byte_le (is_done (stepped job c v (listed_to job c v run numbers k).run (get_or numbers k 0)).answer),
      )

  pub refused_few : (k : ℕ) → (listed_to job c v run numbers k).refused ≤ k
  unfolding listed_to
  refused_few zero = omega arith
  refused_few (suc k) =
      omega (
        arith,
        refused_few k,
        byte_le (not (is_done (stepped job c v (listed_to job c v run numbers k).run (get_or numbers k 0)).answer)),
      )
