-- A list of steps counts each of them once (`counts_all`) and is its steps, one call after another (`in_order`, `done_in_order`), on a run
-- that fits. That the call `step` is the step of the layer below is asked for (`on`): each promise of the calls says it for itself.
use mathlib.Core.Path.{◌≡◌, refl, sym, ap, subst, ◌∙◌}
use mathlib.Core.Bool.{Bool, true, false, cond, not}
use mathlib.Core.List.{List, [], ◌∷◌, ◌++◌}
use Prim.Native.Nat.{ℕ, zero, suc, ◌+◌, ◌≤◌}
use native.Mathlib.Omega.{arith}
use lib.IntN.{ℤ}
use lib.ListN.{length, get_or, take}
use lib.Seq.{take-suc, take-length}
use mir.Val.{bool_byte}
use Rattle.job.specs.declared.Job.{Job}
use Rattle.job.specs.Columns.{Columns, RecordsFit}
use Rattle.job.specs.Jobs.{job_of}
use Rattle.job.specs.Fits.{JobFits}
use Rattle.run.specs.declared.Run.{Run}
use Rattle.run.specs.Fit.{Fits}
use Rattle.step.specs.declared.Stepped.{Stepped}
use Rattle.step.specs.Step.{stepped}
use Rattle.step.proofs.Keeps.{stepped_fits}
use Rattle.lists.specs.declared.Listed.{Listed}
use Rattle.lists.specs.Lists.{is_done, listed_to}
use Rattle.station.specs.Entries.{step_on}
use Rattle.promises.specs.Grown.{after_steps, over_steps}

-- the step, and the first k steps of a list, of a job given by its columns, without the entry's checks
abbrev pub stepped_in : Columns → Run → ℕ → Stepped
stepped_in J run k = stepped (job_of J) J.cylinders J.values run k

abbrev pub listed_in : Columns → Run → List ℕ → ℕ → Listed
listed_in J run ks k = listed_to (job_of J) J.cylinders J.values run ks k

-- what it says that the call `step` is the step
abbrev pub OnStep : Columns → Type 0
OnStep J = (run : Run) → Fits (job_of J) run → (k : ℕ) → step_on J run k ≡ stepped_in J run k

byte_is : (b : Bool) → bool_byte b ≡ cond b 1 0
byte_is true = refl
byte_is false = refl

one_of_two : (b : Bool) → bool_byte b + bool_byte (not b) ≡ 1
one_of_two true = refl
one_of_two false = refl

pub counts_all : (job : Job) (c v : List ℤ) (run : Run) (ns : List ℕ) (k : ℕ)
    → ((listed_to job c v run ns k).answer ≡ 0) × ((listed_to job c v run ns k).done + (listed_to job c v run ns k).refused ≡ k)
unfolding listed_to
counts_all job c v run ns zero = (refl, refl)
counts_all job c v run ns (suc k) =
    let s = stepped job c v (listed_to job c v run ns k).run (get_or ns k 0) in
    (refl, omega (arith, (counts_all job c v run ns k).1, one_of_two (is_done s.answer)))

module _ (J : Columns) where
  pub after-append : (run : Run) (ks more : List ℕ) → after_steps J run (ks ++ more) ≡ after_steps J (after_steps J run ks) more
  unfolding after_steps
  after-append run [] more = refl
  after-append run (k ∷ ks) more = after-append (step_on J run k).run ks more

  pub over-append : (f : Run → ℕ → ℕ) (run : Run) (ks more : List ℕ)
      → over_steps J f run (ks ++ more) ≡ over_steps J f run ks + over_steps J f (after_steps J run ks) more
  unfolding over_steps after_steps
  over-append f run [] more = omega arith
  over-append f run (k ∷ ks) more =
      let a = over-append f (step_on J run k).run ks more in
      omega arith

  module _ (JF : JobFits (job_of J) (length J.cylinders)) (R : RecordsFit J.cylinders J.values) (on : OnStep J) where
    fits_after : (run : Run) (ks : List ℕ) → Fits (job_of J) run → Fits (job_of J) (after_steps J run ks)
    unfolding after_steps
    fits_after run [] F = F
    fits_after run (k ∷ ks) F =
        fits_after (step_on J run k).run ks
        (subst (λ (s : Stepped). Fits (job_of J) s.run) (sym (on run F k))
        (stepped_fits (job_of J) J.cylinders J.values run k JF R F))

    module _ (run : Run) (F : Fits (job_of J) run) (ks : List ℕ) where
      next_is : (k : ℕ) → (listed_in J run ks k).run ≡ after_steps J run (take k ks)
          → step_on J (after_steps J run (take k ks)) (get_or ks k 0) ≡ stepped_in J (listed_in J run ks k).run (get_or ks k 0)
      next_is k e =
          on (after_steps J run (take k ks)) (fits_after run (take k ks) F) (get_or ks k 0)
          ∙ ap (λ x. stepped_in J x (get_or ks k 0)) (sym e)

      list_run : (k : ℕ) → k ≤ length ks → (listed_in J run ks k).run ≡ after_steps J run (take k ks)
      unfolding listed_to after_steps
      list_run zero l = refl
      list_run (suc k) l =
          ap (λ (s : Stepped). s.run) (sym (next_is k (list_run k (omega arith))))
          ∙ sym (after-append run (take k ks) (get_or ks k 0 ∷ []))
          ∙ ap (after_steps J run) (sym (take-suc ks k 0 (omega arith)))

      list_done : (k : ℕ) → k ≤ length ks → (listed_in J run ks k).done ≡ over_steps J (λ run k. 1) run (take k ks)
      unfolding listed_to over_steps
      list_done zero l = refl
      list_done (suc k) l =
          let one : Run → ℕ → ℕ = λ run k. 1 in
          let s = step_on J (after_steps J run (take k ks)) (get_or ks k 0) in
          let a : bool_byte (is_done (stepped_in J (listed_in J run ks k).run (get_or ks k 0)).answer) ≡ cond (is_done s.answer) 1 0 =
          ap (λ (s : Stepped). bool_byte (is_done s.answer)) (sym (next_is k (list_run k (omega arith)))) ∙ byte_is (is_done s.answer) in
          let b : over_steps J one run (take (suc k) ks)
          ≡ over_steps J one run (take k ks) + over_steps J one (after_steps J run (take k ks)) (get_or ks k 0 ∷ []) =
          ap (over_steps J one run) (take-suc ks k 0 (omega arith)) ∙ over-append one run (take k ks) (get_or ks k 0 ∷ []) in
          omega (arith, a, b, list_done k (omega arith))

      pub in_order : (listed_in J run ks (length ks)).run ≡ after_steps J run ks
      in_order = list_run (length ks) (omega arith) ∙ ap (after_steps J run) (take-length ks)

      pub done_in_order : (listed_in J run ks (length ks)).done ≡ over_steps J (λ run k. 1) run ks
      done_in_order = list_done (length ks) (omega arith) ∙ ap (over_steps J (λ run k. 1) run) (take-length ks)
