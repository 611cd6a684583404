-- WHAT THE SEARCH FINDS: the test by parts is the drain's `possible` (`can_is`), and the search finds the lowest possible step (`find_is`).
use mathlib.Core.Path.{◌≡◌, refl, ap₂}
use mathlib.Core.Bool.{Bool, true, false, cond}
use mathlib.Core.List.{List}
use Prim.Native.Nat.{ℕ, zero, suc, ◌+◌, ◌<◌}
use native.Mathlib.Omega.{arith}
use lib.Dec.{eqb, ltb}
use lib.IntN.{ℤ}
use lib.ListN.{get_or}
use borrow.Author.Tests.{ltb-true, ltb-false}
use Rattle.std.specs.Prelude.{Some, None}
use Rattle.job.specs.declared.Job.{Job}
use Rattle.job.specs.Jobs.{JobSized}
use Rattle.run.specs.declared.Run.{Run}
use Rattle.run.specs.Fit.{Fits}
use Rattle.outputs.specs.Outputs.{some_full}
use Rattle.drain.specs.Ready.{possible_in, full_tasks, found}
use Rattle.drain.specs.Drains.{possible, first_from, lowest}
use Rattle.drain.proofs.Full.{full_at}
use Rattle.drain.proofs.Hits.{delivery_hit, source_hit}

-- a search asks its test only of its own numbers
first_same : (k i : ℕ) (f g : ℕ → Bool) → ((j : ℕ) → j < k + i → f j ≡ g j) → first_from k i f ≡ first_from k i g
unfolding first_from
first_same zero i f g same = refl
first_same (suc k) i f g same =
    ap₂ (λ b r. cond b i r) (same i (omega arith)) (first_same k (i + 1) f g (λ j l. same j (omega arith)))

module _ (job : Job) (cs vs : List ℤ) (run : Run) (S : JobSized job) (F : Fits job run) where
  full_is : (u : ℕ) → get_or (full_tasks job run) u false ≡ some_full job run.channels u
  unfolding some_full
  full_is u = full_at job run.channels job.channels (λ d h. omega (arith, S.from_task d h, S.few_tasks)) u

  -- ONE TEST is the product's test of the step
  pub can_is : (n : ℕ) → n < 64 → possible_in job (full_tasks job run) run n ≡ possible job cs vs run n
  unfolding possible_in
  can_is n h = go (ltb n 32) refl
    where
      go : (b : Bool) → ltb n 32 ≡ b → possible_in job (full_tasks job run) run n ≡ possible job cs vs run n
      go true e =
          let l = ltb-true n 32 e in
          simp e (delivery_hit job cs vs run (full_tasks job run) full_is n S l (F.channels n l).room)
      go false e = simp e (source_hit job cs vs run (full_tasks job run) full_is n (ltb-false n 32 e) h)

  -- THE SEARCH finds the lowest possible step
  pub find_is : first_from 64 0 (possible_in job (full_tasks job run) run) ≡ lowest job cs vs run
  unfolding lowest
  find_is = first_same 64 0 _ _ (λ j l. can_is j (omega arith))

-- ---- what a search gives
pub found_none : (k : ℕ) → found k ≡ None → eqb k 64 ≡ true
found_none k e = go (eqb k 64) e
  where
    go : (b : Bool) → cond b None (Some k) ≡ None → b ≡ true
    go true e = refl
    go false e = cc

pub found_some : (k n : ℕ) → found k ≡ Some n → (n ≡ k) × (eqb k 64 ≡ false)
found_some k n e = go (eqb k 64) e
  where
    go : (b : Bool) → cond b None (Some k) ≡ Some n → (n ≡ k) × (b ≡ false)
    go true e = cc
    go false e = (cc, refl)
