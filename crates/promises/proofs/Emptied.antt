-- The drain's definition by itself, on any run: what the search finds is possible, what every step keeps a drain keeps, it answers 0, 18
-- or 19, after a 0 nothing is left, with 18 the limit is spent, a higher limit changes nothing after a 0.
use mathlib.Core.Path.{◌≡◌, refl, ap, ◌∙◌}
use mathlib.Core.Bool.{Bool, true, false, cond}
use mathlib.Core.List.{List}
use mathlib.Core.Logic.{◌⊎◌, inl, inr}
use Prim.Native.Nat.{ℕ, zero, suc, ◌+◌, ◌<◌, ◌≤◌}
use native.Mathlib.Omega.{arith}
use borrow.Author.Tests.{eqb-false}
use lib.Dec.{eqb}
use lib.IntN.{ℤ}
use Rattle.job.specs.declared.Job.{Job}
use Rattle.run.specs.declared.Run.{Run}
use Rattle.step.specs.Step.{stepped}
use Rattle.drain.specs.declared.Drained.{Drained}
use Rattle.drain.specs.Drains.{some_left, possible, first_from, lowest, ended, drained_of}

-- ---- the search: a number among those searched passes, or none of them does
pub record Hit (f k : ℕ) (test : ℕ → Bool) : Type 0 where
  pub below : first_from f k test < k + f
  pub passes : test (first_from f k test) ≡ true

pub found : (f k : ℕ) (test : ℕ → Bool) → (first_from f k test ≡ k + f) ⊎ Hit f k test
unfolding first_from
found zero k test = inl (omega arith)
found (suc f) k test = go (test k) refl (found f (k + 1) test)
  where
    go : (b : Bool) → test k ≡ b → (first_from f (k + 1) test ≡ k + 1 + f) ⊎ Hit f (k + 1) test
        → (first_from (suc f) k test ≡ k + suc f) ⊎ Hit (suc f) k test
    go true e w = inr (record { below = rw e (omega arith); passes = rw e e })
    go false e (inl q) = inl (rw e (omega arith))
    go false e (inr h) = inr (record { below = rw e (omega (arith, h.below)); passes = rw e h.passes })

module _ (job : Job) (c v : List ℤ) where
  -- the lowest possible step, where there is one
  pub lowest_fine : (run : Run) → eqb (lowest job c v run) 64 ≡ false
      → (lowest job c v run < 64) × (possible job c v run (lowest job c v run) ≡ true)
  unfolding lowest
  lowest_fine run e = go (found 64 0 (possible job c v run))
    where
      go : (first_from 64 0 (possible job c v run) ≡ 64) ⊎ Hit 64 0 (possible job c v run)
          → (first_from 64 0 (possible job c v run) < 64) × (possible job c v run (first_from 64 0 (possible job c v run)) ≡ true)
      go (inl q) = absurd (eqb-false _ 64 e q)
      go (inr h) = (omega (arith, h.below), h.passes)

  -- one turn, by what the two tests say
  abbrev turn : ℕ → ℕ → Run → Bool → Bool → Drained
  turn k steps run more stuck =
      cond more (cond stuck (ended 19 run steps) (drained_of job c v k (steps + 1) (stepped job c v run (lowest job c v run)).run))
      (ended 0 run steps)

  -- ONE INDUCTION for what holds of a drain: where it spends its limit, where nothing is left, where it is stuck, and after a step
  module _ (P : ℕ → ℕ → Run → Drained → Type 0)
      (at_spent : (steps : ℕ) (run : Run) → some_left job run ≡ true → P 0 steps run (ended 18 run steps))
      (at_none : (k steps : ℕ) (run : Run) → some_left job run ≡ false → P k steps run (ended 0 run steps))
      (at_stuck : (k steps : ℕ) (run : Run) → some_left job run ≡ true → eqb (lowest job c v run) 64 ≡ true
      → P (suc k) steps run (ended 19 run steps))
      (at_step : (k steps : ℕ) (run : Run) (d : Drained) → some_left job run ≡ true → eqb (lowest job c v run) 64 ≡ false
      → P k (steps + 1) (stepped job c v run (lowest job c v run)).run d → P (suc k) steps run d) where
    pub by_turns : (k steps : ℕ) (run : Run) → P k steps run (drained_of job c v k steps run)
    unfolding drained_of
    by_turns zero steps run = go (some_left job run) refl
      where
        go : (b : Bool) → some_left job run ≡ b → P 0 steps run (cond b (ended 18 run steps) (ended 0 run steps))
        go true e = at_spent steps run e
        go false e = at_none 0 steps run e
    by_turns (suc k) steps run =
        go (some_left job run) refl (eqb (lowest job c v run) 64) refl
        (by_turns k (steps + 1) (stepped job c v run (lowest job c v run)).run)
      where
        go : (a : Bool) → some_left job run ≡ a → (b : Bool) → eqb (lowest job c v run) 64 ≡ b
            → P k (steps + 1) (stepped job c v run (lowest job c v run)).run
            (drained_of job c v k (steps + 1) (stepped job c v run (lowest job c v run)).run)
            → P (suc k) steps run (turn k steps run a b)
        go true e true q ih = at_stuck k steps run e q
        go true e false q ih = at_step k steps run _ e q ih
        go false e b q ih = at_none (suc k) steps run e

  -- what every step of 0 to 63 keeps, a drain keeps
  pub drain_keeps : (Q : Run → Type 0) → ((run : Run) (n : ℕ) → n < 64 → Q run → Q (stepped job c v run n).run)
      → (k steps : ℕ) (run : Run) → Q run → Q (drained_of job c v k steps run).run
  drain_keeps Q keep =
      by_turns (λ k steps run d. Q run → Q d.run) (λ steps run e q. q) (λ k steps run e q. q) (λ k steps run e z q. q)
      (λ k steps run d e z ih q. ih (keep run (lowest job c v run) (lowest_fine run z).0 q))

  pub drain_answers : (k steps : ℕ) (run : Run)
      → (((drained_of job c v k steps run).answer ≡ 0) ⊎ ((drained_of job c v k steps run).answer ≡ 18))
      ⊎ ((drained_of job c v k steps run).answer ≡ 19)
  drain_answers =
      by_turns (λ k steps run d. ((d.answer ≡ 0) ⊎ (d.answer ≡ 18)) ⊎ (d.answer ≡ 19)) (λ steps run e. inl (inr refl))
      (λ k steps run e. inl (inl refl)) (λ k steps run e z. inr refl) (λ k steps run d e z ih. ih)

  pub drain_none : (k steps : ℕ) (run : Run) → (drained_of job c v k steps run).answer ≡ 0
      → some_left job (drained_of job c v k steps run).run ≡ false
  drain_none =
      by_turns (λ k steps run d. d.answer ≡ 0 → some_left job d.run ≡ false) (λ steps run e z. absurd (omega (arith, z)))
      (λ k steps run e z. e) (λ k steps run e z w. absurd (omega (arith, w))) (λ k steps run d e z ih. ih)

  pub drain_spent : (k steps : ℕ) (run : Run) → (drained_of job c v k steps run).answer ≡ 18
      → (drained_of job c v k steps run).steps ≡ steps + k
  drain_spent =
      by_turns (λ k steps run d. d.answer ≡ 18 → d.steps ≡ steps + k) (λ steps run e z. omega arith)
      (λ k steps run e z. absurd (omega (arith, z))) (λ k steps run e z w. absurd (omega (arith, w)))
      (λ k steps run d e z ih w. omega (arith, ih w))

  -- a drain that answers 0 does the same with any higher limit
  pub drain_more : (k steps : ℕ) (run : Run) → (drained_of job c v k steps run).answer ≡ 0 → (limit : ℕ) → k ≤ limit
      → drained_of job c v limit steps run ≡ drained_of job c v k steps run
  unfolding drained_of
  drain_more =
      by_turns (λ k steps run d. d.answer ≡ 0 → (limit : ℕ) → k ≤ limit → drained_of job c v limit steps run ≡ d)
      (λ steps run e z. absurd (omega (arith, z))) (λ k steps run e z limit h. none_left limit steps run e)
      (λ k steps run e z w. absurd (omega (arith, w))) (λ k steps run d e z ih w limit h. further k steps run d e z (ih w) limit h)
    where
      none_left : (limit steps : ℕ) (run : Run) → some_left job run ≡ false → drained_of job c v limit steps run ≡ ended 0 run steps
      none_left zero steps run e = ap (λ b. cond b (ended 18 run steps) (ended 0 run steps)) e
      none_left (suc k) steps run e = ap (λ b. turn k steps run b (eqb (lowest job c v run) 64)) e

      further : (k steps : ℕ) (run : Run) (d : Drained) → some_left job run ≡ true → eqb (lowest job c v run) 64 ≡ false
          → ((limit : ℕ) → k ≤ limit → drained_of job c v limit (steps + 1) (stepped job c v run (lowest job c v run)).run ≡ d)
          → (limit : ℕ) → suc k ≤ limit → drained_of job c v limit steps run ≡ d
      further k steps run d e z ih zero h = absurd (omega arith)
      further k steps run d e z ih (suc limit) h =
          ap (λ b. turn limit steps run b (eqb (lowest job c v run) 64)) e ∙ ap (λ b. turn limit steps run true b) z
          ∙ ih limit (omega arith)
