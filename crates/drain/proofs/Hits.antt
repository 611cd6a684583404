-- The test of a step by its parts is `possible` (`delivery_hit`, `source_hit`), the tasks with a full output being noted.
use mathlib.Core.Path.{◌≡◌, refl, sym, ap, ap₂, ◌∙◌}
use mathlib.Core.Bool.{Bool, true, false}
use mathlib.Core.List.{List}
use Prim.Native.Nat.{ℕ, ◌%◌, ◌≤◌, ◌<◌}
use native.Mathlib.Nat.{mod-eq_of_lt}
use native.Mathlib.Omega.{arith}
use lib.Dec.{ltb, leb}
use lib.IntN.{ℤ}
use lib.ListN.{get_or}
use borrow.Author.Tests.{leb-false}
use Rattle.job.specs.declared.Job.{Job}
use Rattle.job.specs.Jobs.{JobSized, kind_of, b_of, to_of}
use Rattle.run.specs.declared.Run.{Run}
use Rattle.run.specs.Fit.{channel_at, totals_at, count_at}
use Rattle.outputs.specs.Outputs.{some_full}
use Rattle.drain.specs.Drains.{possible}
use Rattle.flat.specs.Columns.{head_of, is_barrier}
use Rattle.drain.specs.Ready.{delivers_by, source_of, acts_by}
use Rattle.drain.proofs.Possible.{delivery_ready_lem, source_ready_lem}

module _ (job : Job) (cs vs : List ℤ) (run : Run) (full : List Bool)
    (noted : (u : ℕ) → get_or full u false ≡ some_full job run.channels u) (n : ℕ) where
  abbrev asked : Bool
  asked =
      delivers_by job.to run.marked job.channels n (channel_at run n).count (is_barrier (head_of (channel_at run n)))
      (get_or full (to_of job n % 16) false) (totals_at run.live (to_of job n % 16)).count

  pub delivery_hit : JobSized job → n < 32 → (channel_at run n).count ≤ 8 → asked ≡ possible job cs vs run n
  unfolding delivers_by
  delivery_hit S l room = go (leb job.channels n) refl
    where
      go : (b : Bool) → leb job.channels n ≡ b → asked ≡ possible job cs vs run n
      go true p = simp p (sym (simp p at (delivery_ready_lem job run cs vs n l room)))
      go false p =
          let small = S.to_task n (leb-false job.channels n p) in
          let u : to_of job n % 16 ≡ to_of job n = mod-eq_of_lt (omega (arith, small, S.few_tasks)) in
          ap₂ (λ f x. delivers_by job.to run.marked job.channels n (channel_at run n).count (is_barrier (head_of (channel_at run
          n))) f x)
          (noted (to_of job n % 16) ∙ ap (some_full job run.channels) u) (ap (λ k. (totals_at run.live k).count) u)
          ∙ sym (delivery_ready_lem job run cs vs n l room)

  pub source_hit : 32 ≤ n → n < 64 → (let t = source_of n in
      acts_by n (ltb t job.tasks) (kind_of job t) (b_of job t) (totals_at run.live t).count (ltb 0 (count_at run.waiting t))
      (get_or full t false) ≡ possible job cs vs run n)
  source_hit low high =
      let t = source_of n in
      ap (acts_by n (ltb t job.tasks) (kind_of job t) (b_of job t) (totals_at run.live t).count (ltb 0 (count_at run.waiting t)))
      (noted t) ∙ sym (source_ready_lem job run cs vs n low high)
