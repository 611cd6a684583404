-- Statement 3, the drain: on a grown run it answers 0 or 18, with limit enough 0, and after a 0 nothing is left and the live totals are
-- direct evaluation's over every record that the sources are to read. A drain is some steps one after another (`drain_path`).
use mathlib.Core.Path.{◌≡◌, refl, sym, ap, ap₂, subst, ◌∙◌}
use mathlib.Core.Bool.{Bool, true, false, cond, ◌&&◌, ◌||◌}
use mathlib.Core.List.{List, [], ◌∷◌}
use mathlib.Core.Logic.{◌⊎◌, inl, inr}
use Prim.Native.Nat.{ℕ, zero, suc, ◌+◌, ◌<◌, ◌≤◌}
use native.Mathlib.Omega.{arith}
use borrow.Author.Tests.{eqb-true, not-false, ltb-true, ltb-false, lt-ltb}
use lib.Dec.{eqb, ltb}
use lib.IntN.{nat_abs}
use lib.ListN.{length, get_or, take}
use lib.Seq.{take_all, take-nil}
use Rattle.laws.specs.Received.{received}
use Rattle.laws.specs.Sums.{sum_l}
use Rattle.laws.specs.Totals.{tot_mon, one_total}
use Rattle.laws.specs.Invariant.{direct_at}
use Rattle.laws.specs.Drain.{drain_f}
use Rattle.laws.proofs.Drain.{zero_direct}
use Rattle.laws.proofs.Promise.{drain_promise, silent_19}
use Rattle.job.specs.Columns.{Columns}
use Rattle.job.specs.Jobs.{job_of, b_of, is_source}
use Rattle.job.specs.Graph.{part_length}
use Rattle.job.specs.Rules.{job_answer}
use Rattle.job.proofs.Bools.{neither}
use Rattle.job.proofs.Tests.{some_none}
use Rattle.direct.specs.Direct.{directed_of}
use Rattle.run.specs.declared.Run.{Run}
use Rattle.run.specs.Fit.{channel_at, count_at}
use Rattle.step.specs.declared.Stepped.{Stepped}
use Rattle.step.specs.Step.{offset_of}
use Rattle.drain.specs.declared.Drained.{Drained}
use Rattle.lists.specs.Lists.{is_done}
use Rattle.drain.specs.Drains.{task_left, tasks_left, channels_left, some_left, possible, ended}
use Rattle.station.specs.Entries.{step_on, drain_on}
use Rattle.promises.specs.Grown.{after_steps, grown, over_steps, whole_parts}
use Rattle.promises.specs.Promises.{NothingLeft, DrainEnds}
use Rattle.promises.proofs.Reading.{part_of, no_part}
use Rattle.promises.proofs.InOrder.{stepped_in}
use Rattle.promises.proofs.Grows.{lowest_in, drained_in, the_job, law_job, at_run, Goes, on_step, on_drain, goes_stepped}
use Rattle.promises.proofs.Grows.{goes_grown}
use Rattle.promises.proofs.Evaluated.{part_long}
use Rattle.promises.proofs.Counted.{directed_is, law_accepted}
use Rattle.promises.proofs.Flags.{or_false, or_true, step_flags}
use Rattle.promises.proofs.Emptied.{lowest_fine, by_turns, drain_keeps, drain_answers, drain_none, drain_spent}
use Rattle.promises.proofs.Twins.{Twin, twins}

-- a snapshot is under way or complete, before and after a step that answers 20 or another number
flags_kept : (u : ℕ) (c q : Bool) → ltb 0 u || c ≡ true → ltb 0 (cond q 0 u) || (c || q) ≡ true
flags_kept u c true e = sym (or_true c)
flags_kept u c false e = ap (λ d. ltb 0 u || d) (sym (or_false c)) ∙ e

module _ (J : Columns) (ok : job_answer J ≡ 0) where
  -- the drain of a run that goes along
  pub goes_drain : (k steps : ℕ) (run : Run) → Goes J ok run → Goes J ok (drained_in J k steps run).run
  goes_drain =
      drain_keeps (job_of J) J.cylinders J.values (Goes J ok)
      (λ run n l A. goes_stepped J ok run A n)

  -- ---- a drain is some steps of 0 to 63, all of them done
  pub record Path (steps : ℕ) (run : Run) (d : Drained) : Type 0 where
    pub list : List ℕ
    pub early : (i : ℕ) → i < length list → get_or list i 0 < 64
    pub leads : after_steps J run list ≡ d.run
    pub many : d.steps ≡ steps + length list
    pub done : over_steps J (λ run k. 1) run list ≡ length list

  no_step : (steps : ℕ) (run : Run) (a : ℕ) → Path steps run (ended a run steps)
  unfolding after_steps over_steps
  no_step steps run a = record { list = []; early = λ i l. absurd (omega arith); leads = refl; many = omega arith; done = refl }

  one_more : (steps : ℕ) (run : Run) (d : Drained) (low : ℕ) → low < 64 → is_done (step_on J run low).answer ≡ true
      → Path (steps + 1) (step_on J run low).run d → Path steps run d
  unfolding after_steps over_steps
  one_more steps run d low l e p = record {
    list = low ∷ p.list;
    early = all;
    leads = p.leads;
    many = omega (arith, p.many);
    done = ap (λ b. cond b 1 0 + over_steps J (λ run k. 1) (step_on J run low).run p.list) e ∙ omega (arith, p.done);
  }
    where
      all : (i : ℕ) → i < length (low ∷ p.list) → get_or (low ∷ p.list) i 0 < 64
      all zero h = l
      all (suc i) h = p.early i (omega arith)

  pub drain_path : (k steps : ℕ) (run : Run) → Goes J ok run → Path steps run (drained_in J k steps run)
  unfolding possible
  drain_path =
      by_turns (job_of J) J.cylinders J.values (λ k steps run d. Goes J ok run → Path steps run d)
      (λ steps run e A. no_step steps run 18) (λ k steps run e A. no_step steps run 0) (λ k steps run e z A. no_step steps run 19)
      (λ k steps run d e z ih A.
      let low = lowest_in J run in
      let fine = lowest_fine (job_of J) J.cylinders J.values run z in
      let q = sym (on_step J ok run A.fits low) in
      one_more steps run d low fine.0 (subst (λ (s : Stepped). is_done s.answer ≡ true) q fine.1)
      (subst (λ (s : Stepped). Path (steps + 1) s.run d) q
      (ih (goes_stepped J ok run A low))))

  -- ---- what is left after a 0
  nothing : (run : Run) → Goes J ok run → some_left (job_of J) run ≡ false → NothingLeft J run
  unfolding some_left tasks_left channels_left
  nothing run A e =
      let two = neither _ (ltb 0 run.under_way) e in
      let one = neither (tasks_left (job_of J) run) (channels_left (job_of J) run) two.0 in
      record {
        read_out = λ s l src. read s l src (task one.0 s l).0;
        empty = λ c l. eqb-true (channel_at run c).count 0 (not-false _ (some_none _ (job_of J).channels one.1 c l));
        none_waits = λ s l. omega (arith, ltb-false 0 (count_at run.waiting s) (task one.0 s l).1);
        none_under_way = omega (arith, ltb-false 0 run.under_way two.1);
      }
    where
      task : tasks_left (job_of J) run ≡ false → (s : ℕ) → s < (job_of J).tasks
          → (is_source (job_of J) s && ltb (offset_of run s) (nat_abs (b_of (job_of J) s)) ≡ false) × (ltb 0 (count_at run.waiting s) ≡ false)
      task z s l = neither _ _ (some_none (task_left (job_of J) run) (job_of J).tasks z s l)

      read : (s : ℕ) → s < (job_of J).tasks → is_source (job_of J) s ≡ true
          → is_source (job_of J) s && ltb (offset_of run s) (nat_abs (b_of (job_of J) s)) ≡ false → offset_of run s ≡ nat_abs (b_of (job_of J) s)
      read s l src z =
          let high : nat_abs (b_of (job_of J) s) ≤ offset_of run s =
          ltb-false (offset_of run s) (nat_abs (b_of (job_of J) s))
          (sym (ap (λ b. b && ltb (offset_of run s) (nat_abs (b_of (job_of J) s))) src) ∙ z) in
          omega (arith, (A.fits.totals s l).live.source src)

  -- ---- the totals after a 0
  pub whole : (t : ℕ) → take (part_length (job_of J) t) ((law_job J ok).part t) ≡ (law_job J ok).part t
  whole t = go (ltb t (job_of J).tasks) refl
    where
      go : (b : Bool) → ltb t (job_of J).tasks ≡ b
          → take (part_length (job_of J) t) ((law_job J ok).part t) ≡ (law_job J ok).part t
      go true e =
          take_all (part_length (job_of J) t) (part_of (job_of J) J.cylinders J.values t)
          (omega (arith, part_long (job_of J) J.cylinders J.values (the_job J ok) t (ltb-true t (job_of J).tasks e)))
      go false e =
          let none = no_part (job_of J) J.cylinders J.values (the_job J ok) t (ap (λ b. b && is_source (job_of J) t) e) in
          ap (take (part_length (job_of J) t)) none ∙ take-nil (part_length (job_of J) t) ∙ sym none

  whole_direct : (u : ℕ)
      → direct_at (law_job J ok) (part_length (job_of J)) u
      ≡ sum_l tot_mon (λ r. one_total r.value) (received (law_job J ok).g (job_of J).tasks (law_job J ok).part u)
  whole_direct u = ap (λ E. sum_l tot_mon (λ r. one_total r.value) (received (law_job J ok).g (job_of J).tasks E u)) (λ i t. whole t i)

  pub few_whole : (t : ℕ) → t < (job_of J).tasks → is_source (job_of J) t ≡ true → part_length (job_of J) t ≤ nat_abs (b_of (job_of J) t)
  few_whole t l e = omega (arith, ap (λ b. cond b (nat_abs (b_of (job_of J) t)) 0) e)

  -- ---- on grown runs
  module _ (ks : List ℕ) (limit : ℕ) where
    G : Goes J ok (grown J ks)
    G = goes_grown J ok ks

    is : drain_on J (grown J ks) limit ≡ drained_in J limit 0 (grown J ks)
    is = on_drain J ok (grown J ks) G.fits limit

    twin : Twin J ok (drain_on J (grown J ks) limit) (drain_f (law_job J ok) limit 0 (at_run J ok (grown J ks)))
    twin = subst (λ d. Twin J ok d (drain_f (law_job J ok) limit 0 (at_run J ok (grown J ks)))) (sym is) (twins J ok limit 0 (grown J ks) G)

    pub not_19 : (drain_on J (grown J ks) limit).answer ≡ 19 → ⊥
    not_19 e =
        silent_19 (law_job J ok) (law_accepted J ok) (at_run J ok (grown J ks)) G.good [] limit
        (twin.answer ∙ e)

    pub two_answers : ((drain_on J (grown J ks) limit).answer ≡ 0) ⊎ ((drain_on J (grown J ks) limit).answer ≡ 18)
    two_answers =
        go (subst (λ (d : Drained). ((d.answer ≡ 0) ⊎ (d.answer ≡ 18)) ⊎ (d.answer ≡ 19)) (sym is)
        (drain_answers (job_of J) J.cylinders J.values limit 0 (grown J ks)))
      where
        go : (((drain_on J (grown J ks) limit).answer ≡ 0) ⊎ ((drain_on J (grown J ks) limit).answer ≡ 18))
            ⊎ ((drain_on J (grown J ks) limit).answer ≡ 19)
            → ((drain_on J (grown J ks) limit).answer ≡ 0) ⊎ ((drain_on J (grown J ks) limit).answer ≡ 18)
        go (inl w) = w
        go (inr e) = absurd (not_19 e)

    enough : 67_108_864 ≤ limit → (drain_on J (grown J ks) limit).answer ≡ 0
    enough h =
        sym twin.answer
        ∙ drain_promise (law_job J ok) (law_accepted J ok) (at_run J ok (grown J ks)) G.good [] limit h

    goes_end : Goes J ok (drain_on J (grown J ks) limit).run
    goes_end = subst (λ (d : Drained). Goes J ok d.run) (sym is) (goes_drain limit 0 (grown J ks) G)

    ended_none : (drain_on J (grown J ks) limit).answer ≡ 0 → some_left (job_of J) (drain_on J (grown J ks) limit).run ≡ false
    ended_none =
        subst (λ (d : Drained). d.answer ≡ 0 → some_left (job_of J) d.run ≡ false) (sym is)
        (drain_none (job_of J) J.cylinders J.values limit 0 (grown J ks))

    totals : (drain_on J (grown J ks) limit).answer ≡ 0
        → directed_of J (whole_parts J) ≡ record { totals = (drain_on J (grown J ks) limit).run.live; answer = 0 }
    totals e =
        directed_is J ok (part_length (job_of J)) few_whole (drain_on J (grown J ks) limit).run.live goes_end.sized.live
        (λ u l.
        ap (λ s. s.live u) (sym twin.run)
        ∙ zero_direct (law_job J ok) (the_job J ok).some_task [] limit (at_run J ok (grown J ks)) G.good (twin.answer ∙ e) u l
        ∙ sym (whole_direct u))
        (λ u l. (goes_end.fits.totals u l).live) (λ u h l. (goes_end.fits.no_task u h l).live)

    spent : (drain_on J (grown J ks) limit).answer ≡ 18 → (drain_on J (grown J ks) limit).steps ≡ limit
    spent e =
        let f = subst (λ (d : Drained). d.answer ≡ 18 → d.steps ≡ 0 + limit) (sym is)
        (drain_spent (job_of J) J.cylinders J.values limit 0 (grown J ks)) in
        omega (arith, f e)

    -- under way or complete: so it is after every step of 0 to 63
    completes : (drain_on J (grown J ks) limit).answer ≡ 0 → 0 < (grown J ks).under_way
        → (drain_on J (grown J ks) limit).run.complete ≡ true
    completes e u =
        let kept : ltb 0 (drain_on J (grown J ks) limit).run.under_way || (drain_on J (grown J ks) limit).run.complete ≡ true =
        subst (λ (d : Drained). ltb 0 d.run.under_way || d.run.complete ≡ true) (sym is)
        (drain_keeps (job_of J) J.cylinders J.values (λ run. ltb 0 run.under_way || run.complete ≡ true) keep limit 0
        (grown J ks) (ap (λ b. b || (grown J ks).complete) (lt-ltb 0 (grown J ks).under_way u))) in
        sym (ap (λ n. ltb 0 n || (drain_on J (grown J ks) limit).run.complete) (nothing _ goes_end (ended_none e)).none_under_way) ∙ kept
      where
        keep : (run : Run) (n : ℕ) → n < 64 → ltb 0 run.under_way || run.complete ≡ true
            → ltb 0 (stepped_in J run n).run.under_way
            || (stepped_in J run n).run.complete ≡ true
        keep run n l e =
            let f = step_flags run (job_of J) J.cylinders J.values n l in
            ap₂ (λ n d. ltb 0 n || d) f.under_way f.complete ∙ flags_kept run.under_way run.complete
            (eqb (stepped_in J run n).answer 20) e

  -- THE DRAIN
  pub drain_ends : (ks : List ℕ) (limit : ℕ) → DrainEnds J ks limit
  drain_ends ks limit = record {
    answers = two_answers ks limit;
    enough = enough ks limit;
    nothing_left = λ e. nothing _ (goes_end ks limit) (ended_none ks limit e);
    completes = completes ks limit;
    totals = totals ks limit;
    spent = spent ks limit;
  }
