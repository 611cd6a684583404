-- The drain: the search for the lowest possible step, and one turn of the drain.
use mathlib.Core.Path.{◌≡◌, refl, sym, ap, ◌∙◌}
use mathlib.Core.Bool.{Bool, true, false, cond, ◌||◌, false≢true}
use mathlib.Core.List.{List}
use Prim.Native.Nat.{ℕ, zero, suc, ◌+◌, ◌-◌, ◌≤◌, ◌<◌}
use native.Mathlib.Omega.{arith}
use borrow.Author.Tests.{eq-eqb, ne_eqb, eqb-true, eqb-false}
use lib.Dec.{eqb}
use lib.IntN.{ℤ}
use Rattle.std.specs.Prelude.{Some}
use Rattle.job.specs.declared.Job.{Job}
use Rattle.job.proofs.Bools.{neither}
use Rattle.run.specs.declared.Run.{Run}
use Rattle.step.specs.Step.{stepped}
use Rattle.drain.specs.Drains.{some_left, possible, first_from, lowest, ended, drained_of}
use Rattle.drain.specs.Ready.{found}
use Rattle.drain.specs.Turns.{is_over, last_answer}

or_left : (b : Bool) → b || false ≡ true → b ≡ true
or_left true e = refl
or_left false e = absurd (false≢true e)

-- ---- the search, where i of n numbers have been tried
module _ (n i : ℕ) (test : ℕ → Bool) where
  pub first_hit : i < n → test i ≡ true → first_from (n - i) i test ≡ i
  unfolding first_from
  first_hit h e = let s : n - i ≡ suc (n - (i + 1)) = omega arith in ap (λ (k : ℕ). first_from k i test) s ∙ simp e

  pub first_miss : i < n → test i ≡ false → first_from (n - i) i test ≡ first_from (n - (i + 1)) (i + 1) test
  unfolding first_from
  first_miss h e = let s : n - i ≡ suc (n - (i + 1)) = omega arith in ap (λ (k : ℕ). first_from k i test) s ∙ simp e

pub first_end : (n : ℕ) (test : ℕ → Bool) → first_from (n - n) n test ≡ n
unfolding first_from
first_end n test = let s : n - n ≡ 0 = omega arith in ap (λ (k : ℕ). first_from k n test) s

pub found_low : (k n : ℕ) → k ≡ n → n < 64 → Some n ≡ found k
found_low k n e l = sym (ap found e ∙ simp (ne_eqb n 64 (λ q. omega arith)))

-- the search ends within its numbers, at one that passes or after them
pub first_most : (k i : ℕ) (test : ℕ → Bool) → first_from k i test ≤ k + i
unfolding first_from
first_most zero i test = omega arith
first_most (suc k) i test = go (test i) (first_most k (i + 1) test)
  where
    go : (b : Bool) → first_from k (i + 1) test ≤ k + (i + 1) → cond b i (first_from k (i + 1) test) ≤ suc k + i
    go true h = omega arith
    go false h = omega arith

pub first_passes : (k i : ℕ) (test : ℕ → Bool) → first_from k i test < k + i → test (first_from k i test) ≡ true
unfolding first_from
first_passes zero i test h = absurd (omega arith)
first_passes (suc k) i test h = go (test i) refl h (first_passes k (i + 1) test)
  where
    go : (b : Bool) → test i ≡ b → cond b i (first_from k (i + 1) test) < suc k + i
        → (first_from k (i + 1) test < k + (i + 1) → test (first_from k (i + 1) test) ≡ true)
        → test (cond b i (first_from k (i + 1) test)) ≡ true
    go true e h ih = e
    go false e h ih = ih (omega arith)

-- ---- one turn
module _ (job : Job) (c v : List ℤ) where
  pub nothing_left : (k steps : ℕ) (run : Run) → some_left job run ≡ false → drained_of job c v k steps run ≡ ended 0 run steps
  unfolding drained_of
  nothing_left zero steps run e = simp e
  nothing_left (suc k) steps run e = simp e

  pub spent : (steps : ℕ) (run : Run) → some_left job run ≡ true → drained_of job c v (steps - steps) steps run ≡ ended 18 run steps
  unfolding drained_of
  spent steps run e = let s : steps - steps ≡ 0 = omega arith in ap (λ (k : ℕ). drained_of job c v k steps run) s ∙ simp e

  module _ (limit steps : ℕ) (run : Run) (more : steps < limit) (left : some_left job run ≡ true) where
    turn : limit - steps ≡ suc (limit - (steps + 1))
    turn = omega arith

    pub stuck : lowest job c v run ≡ 64 → drained_of job c v (limit - steps) steps run ≡ ended 19 run steps
    unfolding drained_of
    stuck e = ap (λ (k : ℕ). drained_of job c v k steps run) turn ∙ simp (left, eq-eqb (lowest job c v run) 64 e)

    pub one_step : (lowest job c v run ≡ 64 → ⊥)
        → drained_of job c v (limit - steps) steps run
        ≡ drained_of job c v (limit - (steps + 1)) (steps + 1) (stepped job c v run (lowest job c v run)).run
    unfolding drained_of
    one_step ne = ap (λ (k : ℕ). drained_of job c v k steps run) turn ∙ simp (left, ne_eqb (lowest job c v run) 64 ne)

  module _ (limit steps : ℕ) (run : Run) (within : steps ≤ limit) where
    -- it is over
    pub ends : is_over job c v limit steps run ≡ true
        → drained_of job c v (limit - steps) steps run ≡ ended (last_answer (some_left job run) (eqb steps limit)) run steps
    ends h = go (some_left job run) refl (eqb steps limit) refl h
      where
        go : (left : Bool) → some_left job run ≡ left → (out : Bool) → eqb steps limit ≡ out → eqb (lowest job c v run) 64 || out ≡ true
            → drained_of job c v (limit - steps) steps run ≡ ended (last_answer left out) run steps
        go false e out q h = nothing_left (limit - steps) steps run e
        go true e true q h = ap (λ m. drained_of job c v (m - steps) steps run) (sym (eqb-true steps limit q)) ∙ spent steps run e
        go true e false q h =
            let ne : steps ≡ limit → ⊥ = eqb-false steps limit q in
            stuck limit steps run (omega arith) e (eqb-true (lowest job c v run) 64 (or_left (eqb (lowest job c v run) 64) h))

    -- or the drain goes on
    pub goes_on : (n : ℕ) → n ≡ lowest job c v run → is_over job c v limit steps run ≡ false
        → (n < 64) × (possible job c v run n ≡ true) × (steps < limit)
    unfolding lowest
    goes_on n low h =
        let x = neither (eqb (lowest job c v run) 64) (eqb steps limit) h in
        let ne : lowest job c v run ≡ 64 → ⊥ = eqb-false (lowest job c v run) 64 x.0 in
        let me : steps ≡ limit → ⊥ = eqb-false steps limit x.1 in
        let most = first_most 64 0 (possible job c v run) in
        let less : first_from 64 0 (possible job c v run) < 64 + 0 = omega arith in
        (omega arith, ap (possible job c v run) low ∙ first_passes 64 0 (possible job c v run) less, omega arith)
