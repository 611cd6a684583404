-- Statements 1 and 6: a grown run fits and stays one that is grown by single steps, whatever calls a host mixes; 16, 17 and 19 are silent.
use mathlib.Core.Path.{◌≡◌, refl, sym, ap, subst, ◌∙◌}
use mathlib.Core.Bool.{Bool, true, false, cond}
use mathlib.Core.List.{List, [], ◌∷◌}
use mathlib.Core.Logic.{◌⊎◌, inl, inr}
use Prim.Native.Nat.{ℕ, ◌+◌, ◌-◌}
use native.Mathlib.Omega.{arith}
use borrow.Author.Tests.{ne_eqb}
use lib.Dec.{eqb, ltb}
use lib.ListN.{drop}
use Rattle.laws.specs.Items.{Item, barrier, rec}
use Rattle.laws.specs.Run.{Run as LawRun, Job as LawJob, blocked, mark_s, store_s}
use Rattle.laws.specs.Moves.{whole}
use Rattle.laws.specs.Step.{Out, done, ended, refused, room_b, marked_b, log_full, end_f, bar_f, head_f, next_f, step_f}
use Rattle.laws.proofs.Promise.{silent_17}
use Rattle.job.specs.Columns.{Columns}
use Rattle.job.specs.Rules.{job_answer}
use Rattle.run.specs.declared.Run.{Run}
use Rattle.run.specs.Runs.{fresh_run}
use Rattle.step.specs.declared.Stepped.{Stepped}
use Rattle.step.proofs.Fitting.{cond_has}
use Rattle.station.specs.Entries.{step_on, drain_on}
use Rattle.promises.specs.Grown.{after_steps, grown, steps_done}
use Rattle.promises.specs.Promises.{DrainSteps, GrownRun, Silent}
use Rattle.promises.proofs.InOrder.{stepped_in, after-append, over-append}
use Rattle.promises.proofs.Grows.{law_job, at_run, Goes, on_step, on_drain, out_at, goes_grown, steps_run, steps_done_lem, steps_answer}
use Rattle.promises.proofs.Finished.{Path, drain_path, two_answers, not_19}
use Rattle.promises.proofs.Counted.{law_accepted}

-- ---- the step of `laws` refuses with 11 to 15, 17 or 33
module _ {A : Type 0} where
  unfoldable Not16 : Out A → Type 0
  Not16 (done s) = Unit {0}
  Not16 (ended s) = Unit {0}
  Not16 (refused a) = a ≡ 16 → ⊥

module _ (J : LawJob) (s : LawRun J.R J.M.Car) where
  end_not : (s₂ : LawRun J.R J.M.Car) → Not16 (end_f J s₂)
  unfolding Not16
  end_not s₂ = cond_has Not16 (ltb 0 s₂.going) (λ _. cond_has Not16 (whole J s₂) (λ _. tt) (λ _. tt)) (λ _. tt)

  bar_not : (d : ℕ) (a b : Bool) → Not16 (bar_f J s d a b)
  unfolding Not16
  bar_not d true b = end_not (mark_s J s d)
  bar_not d false false = tt
  bar_not d false true =
      cond_has Not16 (room_b J s (J.g.to d)) (λ _. end_not (store_s J (mark_s J s d) (J.g.to d))) (λ _ z. omega (arith, z))

  head_not : (d : ℕ) (xs : List (Item J.R)) → Not16 (head_f J s d xs)
  unfolding Not16
  head_not d [] = λ z. omega (arith, z)
  head_not d (rec r ∷ rest) =
      cond_has Not16 (room_b J s (J.g.to d))
      (λ _. cond_has Not16 (log_full J s d) (λ _ z. omega (arith, z))
      (λ _. cond_has Not16 (J.full (s.live (J.g.to d))) (λ _ z. omega (arith, z)) (λ _. tt)))
      (λ _ z. omega (arith, z))
  head_not d (barrier ∷ rest) = bar_not d (J.back d) (marked_b J (mark_s J s d) (J.g.to d))

  next_not : (t : ℕ) (xs : List J.R) → Not16 (next_f J s t xs)
  unfolding Not16
  next_not t [] = λ z. omega (arith, z)
  next_not t (r ∷ rest) = cond_has Not16 (room_b J s t) (λ _. tt) (λ _ z. omega (arith, z))

  step_not : (k : ℕ) → Not16 (step_f J s k)
  unfolding Not16
  step_not k =
      cond_has Not16 (ltb k 32)
      (λ _. cond_has Not16 (ltb k J.g.m)
      (λ _. cond_has Not16 (blocked J s k) (λ _ z. omega (arith, z)) (λ _. head_not k (s.chan k))) (λ _ z. omega (arith, z)))
      (λ _. cond_has Not16 (ltb k 48)
      (λ _. cond_has Not16 (ltb (k - 32) J.g.n)
      (λ _. cond_has Not16 (J.src (k - 32))
      (λ _. next_not (k - 32) (drop (s.off (k - 32)) (J.part (k - 32)))) (λ _ z. omega (arith, z)))
      (λ _ z. omega (arith, z)))
      (λ _. cond_has Not16 (ltb k 64)
      (λ _. cond_has Not16 (ltb (k - 48) J.g.n)
      (λ _. cond_has Not16 (J.src (k - 48))
      (λ _. cond_has Not16 (ltb 0 (s.wait (k - 48)))
      (λ _. cond_has Not16 (room_b J s (k - 48)) (λ _. end_not (store_s J s (k - 48))) (λ _ z. omega (arith, z))) (λ _ z. omega (arith, z)))
      (λ _ z. omega (arith, z))) (λ _ z. omega (arith, z)))
      (λ _. cond_has Not16 (eqb k 64) (λ _. cond_has Not16 (ltb s.going J.cap) (λ _. tt) (λ _ z. omega (arith, z)))
      (λ _. cond_has Not16 (eqb k 65) (λ _. tt) (λ _ z. omega (arith, z))))))

  pub never_16 : (k : ℕ) → step_f J s k ≡ refused 16 → ⊥
  unfolding Not16
  never_16 k e = subst Not16 e (step_not k) refl

module _ (J : Columns) (ok : job_answer J ≡ 0) where
  -- a refusal of the product is the same refusal of `laws`
  refusal_at : (run : Run) → Goes J ok run → (k a : ℕ) → (a ≡ 0 → ⊥) → (a ≡ 20 → ⊥) → (step_on J run k).answer ≡ a
      → step_f (law_job J ok) (at_run J ok run) k ≡ refused a
  refusal_at run A k a n0 n20 e =
      let s = stepped_in J run k in
      let q : s.answer ≡ a = ap (λ (s : Stepped). s.answer) (sym (on_step J ok run A.fits k)) ∙ e in
      out_at J ok run A k
      ∙ ap (λ n. cond (eqb n 0) (done (at_run J ok s.run)) (cond (eqb n 20) (ended (at_run J ok s.run)) (refused n))) q
      ∙ ap (λ b. cond b (done (at_run J ok s.run)) (cond (eqb a 20) (ended (at_run J ok s.run)) (refused a))) (ne_eqb a 0 n0)
      ∙ ap (λ b. cond b (ended (at_run J ok s.run)) (refused a)) (ne_eqb a 20 n20)

  -- 17 AND 19 ARE SILENT
  pub silent : (ks : List ℕ) → Silent J ks
  silent ks = record {
    step_not_17 = λ k e.
        silent_17 (law_job J ok) (law_accepted J ok) (at_run J ok (grown J ks)) (goes_grown J ok ks).good
        [] k (refusal_at (grown J ks) (goes_grown J ok ks) k 17 (λ z. omega (arith, z)) (λ z. omega (arith, z)) e);
    drain_not_19 = not_19 J ok ks;
  }

  -- a drain is some steps one after another
  drain_steps : (ks : List ℕ) (limit : ℕ) → DrainSteps J ks limit
  drain_steps ks limit =
      let G = goes_grown J ok ks in
      let is = on_drain J ok (grown J ks) G.fits limit in
      let p : Path J ok 0 (grown J ks) (drain_on J (grown J ks) limit) =
      subst (Path J ok 0 (grown J ks)) (sym is) (drain_path J ok limit 0 (grown J ks) G) in
      record {
        numbers = p.list;
        early = p.early;
        leads = sym p.leads ∙ sym (after-append J fresh_run ks p.list);
        many = omega (arith, p.many);
        done = over-append J (λ run k. 1) fresh_run ks p.list ∙ ap (λ n. steps_done J ks + n) p.done;
      }

  one_step : (run : Run) (k : ℕ) → (step_on J run k).run ≡ after_steps J run (k ∷ [])
  unfolding after_steps
  one_step run k = refl

  drain_not_16 : (ks : List ℕ) (limit : ℕ) → (drain_on J (grown J ks) limit).answer ≡ 16 → ⊥
  drain_not_16 ks limit e = go (two_answers J ok ks limit)
    where
      go : ((drain_on J (grown J ks) limit).answer ≡ 0) ⊎ ((drain_on J (grown J ks) limit).answer ≡ 18) → ⊥
      go (inl z) = omega (arith, z, e)
      go (inr z) = omega (arith, z, e)

  -- GROWN RUNS
  pub grown_runs : (ks : List ℕ) → GrownRun J ks
  grown_runs ks =
      let G = goes_grown J ok ks in
      record {
        fits = G.fits;
        step_not_16 = λ k e.
            never_16 (law_job J ok) (at_run J ok (grown J ks)) k
            (refusal_at (grown J ks) G k 16 (λ z. omega (arith, z)) (λ z. omega (arith, z)) e);
        step_grown = λ k. one_step (grown J ks) k ∙ sym (after-append J fresh_run ks (k ∷ []));
        list_answer = steps_answer J ok (grown J ks) G;
        list_grown = λ more. steps_run J ok (grown J ks) G more ∙ sym (after-append J fresh_run ks more);
        list_done = λ more.
            ap (λ n. steps_done J ks + n) (steps_done_lem J ok (grown J ks) G more) ∙ sym (over-append J (λ run k. 1) fresh_run ks more);
        drain_not_16 = drain_not_16 ks;
        drain_grown = drain_steps ks;
      }
