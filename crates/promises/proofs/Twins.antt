-- The drain of the product and the drain of `laws` go side by side (`twins`): the same answer, the same number of steps, and runs that are
-- read as each other. What is left is the same (`left_is`), and so is the lowest possible step (`first_is`).
use mathlib.Core.Path.{◌≡◌, refl, sym, ap, ap₂, subst, ◌∙◌}
use mathlib.Core.Bool.{Bool, true, false, cond, not, ◌&&◌, ◌||◌, true≢false, false≢true}
use Prim.Native.Nat.{ℕ, zero, suc, ◌+◌, ◌<◌}
use native.Mathlib.Numerals.{add-one}
use native.Mathlib.Omega.{arith}
use borrow.Author.Tests.{ltb-true, eq-eqb, ne_eqb, lt-ltb}
use lib.Dec.{eqb, ltb}
use lib.IntN.{nat_abs}
use lib.ListN.{length}
use Rattle.laws.specs.Below.{both, either, any_n}
use Rattle.laws.specs.Run.{Run as LawRun}
use Rattle.laws.specs.Totals.{tot_mon}
use Rattle.laws.specs.Step.{Out, done, ended, refused, after, step_f}
use Rattle.laws.specs.Drain.{or_else, go_on, drained, first_f, drain_f}
use Rattle.laws.specs.Drain.{Drained as LawDrained, some_left as law_left}
use Rattle.tally.specs.declared.Record.{Record}
use Rattle.channel.specs.Channels.{held}
use Rattle.job.specs.Columns.{Columns}
use Rattle.job.specs.Tests.{some}
use Rattle.job.specs.Jobs.{job_of, b_of, is_source}
use Rattle.job.specs.Rules.{job_answer}
use Rattle.run.specs.declared.Run.{Run}
use Rattle.run.specs.Fit.{channel_at, count_at}
use Rattle.step.specs.Step.{offset_of}
use Rattle.drain.specs.declared.Drained.{Drained}
use Rattle.lists.specs.Lists.{is_done}
use Rattle.drain.specs.Drains.{task_left, tasks_left, channels_left, some_left, possible, first_from, lowest}
use Rattle.drain.specs.Drains.{ended as ended_with}
use Rattle.promises.proofs.Reading.{items_of, part_of, source_is}
use Rattle.promises.proofs.Held.{held-length}
use Rattle.promises.proofs.Evaluated.{part_long}
use Rattle.promises.proofs.Along.{was_done}
use Rattle.promises.proofs.InOrder.{stepped_in}
use Rattle.promises.proofs.Grows.{possible_in, lowest_in, drained_in, the_job, law_job, at_run, Goes, went, goes_stepped}
use Rattle.promises.proofs.Grows.{said_stepped}
use Rattle.promises.proofs.Emptied.{lowest_fine, by_turns}

-- ---- tests over the numbers below n, on both sides
or_either : (x y : Bool) → x || y ≡ either y x
or_either true true = refl
or_either true false = refl
or_either false true = refl
or_either false false = refl

some_any : (p q : ℕ → Bool) (n : ℕ) → ((i : ℕ) → i < n → p i ≡ q i) → some p n ≡ any_n n q
unfolding some
some_any p q zero h = refl
some_any p q (suc n) h =
    or_either (some p n) (p n) ∙ ap₂ either (h n (omega arith)) (some_any p q n (λ i l. h i (omega arith)))

either_mix : (a b x y : Bool) → either (either a b) (either x y) ≡ either (either a x) (either b y)
either_mix true b x y = refl
either_mix false true true y = refl
either_mix false true false y = refl
either_mix false false x y = refl

any_either : (n : ℕ) (p q : ℕ → Bool) → any_n n (λ t. either (p t) (q t)) ≡ either (any_n n p) (any_n n q)
any_either zero p q = refl
any_either (suc n) p q = ap (either (either (p n) (q n))) (any_either n p q) ∙ either_mix (p n) (q n) (any_n n p) (any_n n q)

-- the order in which they are asked makes no difference
asked : (x c d : Bool) → x || c || d ≡ either d (either c x)
asked x c d = or_either (x || c) d ∙ ap (either d) (or_either x c)

-- ---- a step that was done goes first, and a drain goes on after it
or_first : {A : Type 0} (o x : Out A) → was_done o ≡ true → or_else o x ≡ o
or_first (done s) x e = refl
or_first (ended s) x e = refl
or_first (refused a) x e = absurd (false≢true e)

or_rest : {A : Type 0} (o x : Out A) → was_done o ≡ false → or_else o x ≡ x
or_rest (done s) x e = absurd (true≢false e)
or_rest (ended s) x e = absurd (true≢false e)
or_rest (refused a) x e = refl

go_on_lem : {A : Type 0} (k : A → LawDrained A) (c : ℕ) (s : A) (o : Out A) → was_done o ≡ true → go_on k c s o ≡ k (after s o)
go_on_lem k c s (done s') e = refl
go_on_lem k c s (ended s') e = refl
go_on_lem k c s (refused a) e = absurd (false≢true e)

module _ (J : Columns) (ok : job_answer J ≡ 0) where
  module _ (run : Run) (A : Goes J ok run) where
    -- ---- what is left: a record unread, a barrier waiting, an item held
    abbrev unread : ℕ → Bool
    unread t = both ((law_job J ok).src t) (ltb ((at_run J ok run).off t) (length ((law_job J ok).part t)))

    abbrev waits : ℕ → Bool
    waits t = both ((law_job J ok).src t) (ltb 0 ((at_run J ok run).wait t))

    abbrev holds : ℕ → Bool
    holds c = ltb 0 (length ((at_run J ok run).chan c))

    task_is : (t : ℕ) → t < (job_of J).tasks → task_left (job_of J) run t ≡ either (unread t) (waits t)
    task_is t l =
        rest (is_source (job_of J) t) refl (ltb 0 (count_at run.waiting t)) refl
        ∙ sym (ap (λ b. either (both b (behind b)) (both b (ltb 0 (count_at run.waiting t)))) (source_is (job_of J) t l))
      where
        behind : Bool → Bool
        behind b = ltb (cond b (offset_of run t) 0) (length (part_of (job_of J) J.cylinders J.values t))

        rest : (b : Bool) → is_source (job_of J) t ≡ b → (x : Bool) → ltb 0 (count_at run.waiting t) ≡ x
            → (b && ltb (offset_of run t) (nat_abs (b_of (job_of J) t)) || x) ≡ either (both b (behind b)) (both b x)
        rest true e x q =
            ap (λ n. ltb (offset_of run t) n || x)
            (sym (part_long (job_of J) J.cylinders J.values (the_job J ok) t l ∙ ap (λ b. cond b (nat_abs (b_of (job_of J) t)) 0) e))
            ∙ same (behind true) x
          where
            same : (a x : Bool) → (a || x) ≡ either a x
            same true x = refl
            same false x = refl
        rest false e true q = absurd (false≢true (sym e ∙ A.fits.waits t l (ltb-true 0 (count_at run.waiting t) q)))
        rest false e false q = refl

    held_long : (c : ℕ) → c < (job_of J).channels → length (items_of (held (channel_at run c))) ≡ (channel_at run c).count
    held_long c l =
        let few : c < 32 = omega (arith, (the_job J ok).sends.sized.few_channels) in
        held-length (channel_at run c) (A.sized.items c few) (A.fits.channels c few).room

    channel_is : (c : ℕ) → c < (job_of J).channels → not (eqb (channel_at run c).count 0) ≡ holds c
    channel_is c l = go (channel_at run c).count ∙ ap (ltb 0) (sym (held_long c l))
      where
        go : (n : ℕ) → not (eqb n 0) ≡ ltb 0 n
        go zero = refl
        go (suc n) = ap not (ne_eqb (suc n) 0 (omega arith)) ∙ sym (lt-ltb 0 (suc n) (omega arith))

    pub left_is : some_left (job_of J) run ≡ law_left (law_job J ok) (at_run J ok run)
    unfolding some_left tasks_left channels_left
    left_is =
        asked (some (task_left (job_of J) run) (job_of J).tasks) (some (λ c. not (eqb (channel_at run c).count 0)) (job_of J).channels)
        (ltb 0 run.under_way)
        ∙ ap (λ x. either (ltb 0 run.under_way) x)
        (ap₂ (λ c x. either c x)
        (some_any (λ c. not (eqb (channel_at run c).count 0)) holds (job_of J).channels channel_is)
        (some_any (task_left (job_of J) run) (λ t. either (unread t) (waits t)) (job_of J).tasks task_is
        ∙ any_either (job_of J).tasks unread waits))

    -- ---- the search
    first_is : (f k : ℕ)
        → first_f (law_job J ok) (at_run J ok run) f k
        ≡ cond (eqb (first_from f k (possible_in J run)) (k + f)) (refused 19)
        (step_f (law_job J ok) (at_run J ok run) (first_from f k (possible_in J run)))
    unfolding first_from possible
    first_is zero k =
        ap (λ b. cond b (refused 19) (step_f (law_job J ok) (at_run J ok run) k)) (sym (eq-eqb k (k + 0) (omega arith)))
    first_is (suc f) k = go (is_done (stepped_in J run k).answer) refl (first_is f (suc k))
      where
        test : ℕ → Bool
        test n = is_done (stepped_in J run n).answer

        at : ℕ → Out (LawRun Record tot_mon.Car)
        at n = step_f (law_job J ok) (at_run J ok run) n

        was : was_done (at k) ≡ test k
        was = (said_stepped J ok run A k).0

        go : (b : Bool) → test k ≡ b
            → first_f (law_job J ok) (at_run J ok run) f (suc k)
            ≡ cond (eqb (first_from f (suc k) test) (suc k + f)) (refused 19) (at (first_from f (suc k) test))
            → or_else (at k) (first_f (law_job J ok) (at_run J ok run) f (suc k))
            ≡ cond (eqb (cond b k (first_from f (k + 1) test)) (k + suc f)) (refused 19) (at (cond b k (first_from f (k + 1) test)))
        go true e ih =
            or_first (at k) _ (was ∙ e) ∙ ap (λ b. cond b (refused 19) (at k)) (sym (ne_eqb k (k + suc f) (omega arith)))
        go false e ih =
            let same : suc k + f ≡ k + suc f = omega arith in
            or_rest (at k) _ (was ∙ e) ∙ ih
            ∙ ap₂ (λ a b. cond (eqb (first_from f a test) b) (refused 19) (at (first_from f a test))) (sym (add-one k)) same

    -- the first possible step of 0 to 63
    first_lowest : first_f (law_job J ok) (at_run J ok run) 64 0
        ≡ cond (eqb (lowest_in J run) 64) (refused 19)
        (step_f (law_job J ok) (at_run J ok run) (lowest_in J run))
    unfolding lowest
    first_lowest = first_is 64 0

  -- ---- side by side
  pub record Twin (d : Drained) (D : LawDrained (LawRun Record tot_mon.Car)) : Type 0 where
    pub answer : D.answer ≡ d.answer
    pub count : D.count ≡ d.steps
    pub run : D.run ≡ at_run J ok d.run

  twin_of : (a steps : ℕ) (run : Run) (D : LawDrained (LawRun Record tot_mon.Car)) → D ≡ drained a steps (at_run J ok run)
      → Twin (ended_with a run steps) D
  twin_of a steps run D e = subst (Twin (ended_with a run steps)) (sym e) (record { answer = refl; count = refl; run = refl })

  turn_law : (k steps : ℕ) (run : Run) → Goes J ok run → (b : Bool) → some_left (job_of J) run ≡ b
      → drain_f (law_job J ok) (suc k) steps (at_run J ok run)
      ≡ cond b (go_on (λ x. drain_f (law_job J ok) k (suc steps) x) steps (at_run J ok run)
      (cond (eqb (lowest_in J run) 64) (refused 19)
      (step_f (law_job J ok) (at_run J ok run) (lowest_in J run))))
      (drained 0 steps (at_run J ok run))
  turn_law k steps run A b e =
      ap₂ (λ b o. cond b (go_on (λ x. drain_f (law_job J ok) k (suc steps) x) steps (at_run J ok run) o) (drained 0 steps (at_run J ok run)))
      (sym (left_is run A) ∙ e) (first_lowest run A)

  none_law : (k steps : ℕ) (run : Run) → Goes J ok run → some_left (job_of J) run ≡ false
      → drain_f (law_job J ok) k steps (at_run J ok run) ≡ drained 0 steps (at_run J ok run)
  none_law zero steps run A e =
      ap (λ b. cond b (drained 18 steps (at_run J ok run)) (drained 0 steps (at_run J ok run))) (sym (left_is run A) ∙ e)
  none_law (suc k) steps run A e = turn_law k steps run A false e

  step_law : (k steps : ℕ) (run : Run) → Goes J ok run → some_left (job_of J) run ≡ true
      → eqb (lowest_in J run) 64 ≡ false
      → drain_f (law_job J ok) (suc k) steps (at_run J ok run)
      ≡ drain_f (law_job J ok) k (steps + 1)
      (at_run J ok (stepped_in J run (lowest_in J run)).run)
  unfolding possible
  step_law k steps run A e z =
      let low = lowest_in J run in
      turn_law k steps run A true e
      ∙ ap (λ b. go_on (λ x. drain_f (law_job J ok) k (suc steps) x) steps (at_run J ok run)
      (cond b (refused 19) (step_f (law_job J ok) (at_run J ok run) low))) z
      ∙ go_on_lem (λ x. drain_f (law_job J ok) k (suc steps) x) steps (at_run J ok run) (step_f (law_job J ok) (at_run J ok run) low)
      ((said_stepped J ok run A low).0
      ∙ (lowest_fine (job_of J) J.cylinders J.values run z).1)
      ∙ ap₂ (λ n x. drain_f (law_job J ok) k n x) (sym (add-one steps))
      (went J ok run A low)

  -- THE DRAIN is the drain of `laws`
  pub twins : (k steps : ℕ) (run : Run) → Goes J ok run
      → Twin (drained_in J k steps run) (drain_f (law_job J ok) k steps (at_run J ok run))
  twins =
      by_turns (job_of J) J.cylinders J.values
      (λ k steps run d. Goes J ok run → Twin d (drain_f (law_job J ok) k steps (at_run J ok run)))
      (λ steps run e A. twin_of 18 steps run _
      (ap (λ b. cond b (drained 18 steps (at_run J ok run)) (drained 0 steps (at_run J ok run))) (sym (left_is run A) ∙ e)))
      (λ k steps run e A. twin_of 0 steps run _ (none_law k steps run A e))
      (λ k steps run e z A. twin_of 19 steps run _
      (turn_law k steps run A true e
      ∙ ap (λ b. go_on (λ x. drain_f (law_job J ok) k (suc steps) x) steps (at_run J ok run)
      (cond b (refused 19) (step_f (law_job J ok) (at_run J ok run) (lowest_in J run)))) z))
      (λ k steps run d e z ih A. subst (Twin d) (sym (step_law k steps run A e z))
      (ih (goes_stepped J ok run A
      (lowest_in J run))))
