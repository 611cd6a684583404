-- A run of the product goes the way of the run of `laws` that it is read as (`goes`), one step at a time, as long as it fits, its arrays
-- have their sizes and the run that it is read as is good (`Along`); a fresh run has all of that, and every step keeps it.
use mathlib.Core.Path.{◌≡◌, refl, sym, ap, subst, ◌∙◌}
use mathlib.Core.Bool.{Bool, true, false, cond, ◌||◌}
use mathlib.Core.List.{List}
use Prim.Native.Nat.{ℕ}
use native.Mathlib.Omega.{arith}
use borrow.Author.Tests.{ne_eqb, eqb-true, eqb-false}
use lib.Dec.{eqb}
use lib.IntN.{ℤ}
use lib.ListN.{length, get_or, replicate}
use Rattle.laws.specs.Run.{Run as LawRun, start_s, fresh_s}
use Rattle.laws.specs.Invariant.{Good}
use Rattle.laws.specs.Step.{Out, done, ended, refused, after, step_f}
use Rattle.laws.specs.Totals.{tot_mon}
use Rattle.laws.proofs.Below.{cond_same}
use Rattle.laws.proofs.Grown.{fresh_good, any_good}
use Rattle.tally.specs.declared.Record.{Record}
use Rattle.tally.specs.declared.Totals.{Totals}
use Rattle.tally.specs.Totals.{no_totals}
use Rattle.tally.proofs.Fold.{encode}
use Rattle.channel.specs.declared.Channel.{Channel}
use Rattle.channel.specs.Channels.{empty_channel}
use Rattle.job.specs.declared.Job.{Job}
use Rattle.job.specs.Columns.{RecordsFit}
use Rattle.job.specs.Fits.{JobFits}
use Rattle.run.specs.declared.Run.{Run}
use Rattle.run.specs.Runs.{fresh_run, no_channel}
use Rattle.run.specs.Fit.{Fits}
use Rattle.step.specs.declared.Stepped.{Stepped}
use Rattle.step.specs.Step.{cut_off, stepped}
use Rattle.step.proofs.Fitting.{replicate_has}
use Rattle.step.proofs.Keeps.{stepped_fits}
use Rattle.step.proofs.Refused.{refused_same}
use Rattle.lists.specs.Lists.{is_done}
use Rattle.promises.proofs.Reading.{source_of, offset_in, at, read_out, read_job, Sized}
use Rattle.promises.proofs.Asked.{same_at}
use Rattle.promises.proofs.Moved.{cut_is}
use Rattle.promises.proofs.Bridge.{step_read}
use Rattle.promises.proofs.Sizes.{fresh_sized, stepped_sized}

-- a step was done; it completed a snapshot
abbrev pub was_done : {A : Type 0} → Out A → Bool
was_done (done s) = true
was_done (ended s) = true
was_done (refused a) = false

abbrev pub was_ended : {A : Type 0} → Out A → Bool
was_ended (done s) = false
was_ended (ended s) = true
was_ended (refused a) = false

pub empty_at : (n c : ℕ) → (get_or (replicate n empty_channel) c no_channel).count ≡ 0
empty_at n c = replicate_has (λ (ch : Channel). ch.count ≡ 0) n empty_channel no_channel c refl refl

module _ (job : Job) (c v : List ℤ) (J : JobFits job (length c)) where
  pub fresh_at : at job fresh_run ≡ fresh_s (read_job job c v J)
  unfolding cut_off
  fresh_at =
      cut_is job c v J fresh_run
      ∙ λ i. start_s (read_job job c v J) (λ u. encode (same_at 16 u no_totals i)) (λ u. none u i)
    where
      none : (u : ℕ) → offset_in job (replicate 16 no_totals) u ≡ 0
      none u = ap (λ (x : Totals). cond (source_of job u) x.count 0) (same_at 16 u no_totals) ∙ cond_same (source_of job u) 0

  pub record Along (run : Run) : Type 0 where
    pub fits : Fits job run
    pub sized : Sized run
    pub good : Good (read_job job c v J) (at job run)

  -- ---- one step: what its answer says, on both sides
  answer_says : (s : Stepped)
      → (was_done (read_out job s) ≡ is_done s.answer)
      × (was_ended (read_out job s) ≡ eqb s.answer 20)
  answer_says s = go (eqb s.answer 0) refl (eqb s.answer 20) refl
    where
      out : Bool → Bool → Out (LawRun Record tot_mon.Car)
      out a b = cond a (done (at job s.run)) (cond b (ended (at job s.run)) (refused s.answer))

      go : (a : Bool) → eqb s.answer 0 ≡ a → (b : Bool) → eqb s.answer 20 ≡ b
          → (was_done (out a b) ≡ (a || b)) × (was_ended (out a b) ≡ b)
      go true e b q = (refl, sym (ne_eqb s.answer 20 (λ z. omega (arith, z, eqb-true s.answer 0 e))) ∙ q)
      go false e true q = (refl, refl)
      go false e false q = (refl, refl)

  module _ (R : RecordsFit c v) where
    module _ (run : Run) (A : Along run) (k : ℕ) where
      -- THE STEP is the step of `laws`
      pub out_is : step_f (read_job job c v J) (at job run) k ≡ read_out job (stepped job c v run k)
      out_is = sym (step_read job c v J run A.fits A.sized A.good.inv.order k)

      pub goes : after (at job run) (step_f (read_job job c v J) (at job run) k) ≡ at job (stepped job c v run k).run
      goes = ap (after (at job run)) out_is ∙ go (stepped job c v run k) (refused_same job run c v k)
          (eqb (stepped job c v run k).answer 0) refl (eqb (stepped job c v run k).answer 20) refl
        where
          go : (s : Stepped) → ((s.answer ≡ 0 → ⊥) → (s.answer ≡ 20 → ⊥) → s.run ≡ run)
              → (a : Bool) → eqb s.answer 0 ≡ a → (b : Bool) → eqb s.answer 20 ≡ b
              → after (at job run) (cond a (done (at job s.run)) (cond b (ended (at job s.run)) (refused s.answer)))
              ≡ at job s.run
          go s h true e b q = refl
          go s h false e true q = refl
          go s h false e false q = ap (at job) (sym (h (eqb-false s.answer 0 e) (eqb-false s.answer 20 q)))

      pub said : (was_done (step_f (read_job job c v J) (at job run) k) ≡ is_done (stepped job c v run k).answer)
          × (was_ended (step_f (read_job job c v J) (at job run) k) ≡ eqb (stepped job c v run k).answer 20)
      said = (
        ap was_done out_is ∙ (answer_says (stepped job c v run k)).0,
        ap was_ended out_is ∙ (answer_says (stepped job c v run k)).1,
      )

      pub along_step : Along (stepped job c v run k).run
      along_step = record {
        fits = stepped_fits job c v run k J R A.fits;
        sized = stepped_sized job c v run k A.sized;
        good = subst (Good (read_job job c v J)) goes (any_good (read_job job c v J) J.some_task (at job run) k A.good);
      }

    pub along_fresh : Fits job fresh_run → Along fresh_run
    along_fresh F = record {
      fits = F;
      sized = fresh_sized;
      good = subst (Good (read_job job c v J)) (sym fresh_at) (fresh_good (read_job job c v J) J.some_task);
    }
