-- Grown runs of an accepted job: a fresh run fits, every call on a grown run is admitted, a list of steps is its steps one after another,
-- and a run after steps is read as the run of `laws` after the same steps (`exec_at`); whatever is counted over steps is counted there
-- (`counts_at`).
use mathlib.Core.Path.{◌≡◌, refl, sym, ap, ap₂, subst, ◌∙◌}
use mathlib.Core.Bool.{Bool, false, cond, true}
use mathlib.Core.List.{List, [], ◌∷◌}
use Prim.Native.Nat.{ℕ, ◌+◌}
use native.Mathlib.Omega.{arith}
use lib.Dec.{eqb}
use lib.ListN.{length, get_or, replicate}
use Rattle.laws.specs.Run.{Run as LawRun, Job as LawJob, fresh_s}
use Rattle.laws.specs.Totals.{tot_mon}
use Rattle.laws.specs.Step.{Out, done, ended, refused, after, if_done, step_f, exec}
use Rattle.tally.specs.declared.Record.{Record}
use Rattle.tally.specs.Totals.{no_totals}
use Rattle.job.specs.declared.Job.{Job}
use Rattle.job.specs.Columns.{Columns, RecordsFit}
use Rattle.job.specs.Jobs.{job_of}
use Rattle.job.specs.Rules.{job_answer}
use Rattle.job.specs.Fits.{JobFits}
use Rattle.job.proofs.Fine.{fine4}
use Rattle.job.proofs.Exact.{all_off, fine_of}
use Rattle.job.proofs.Fits.{accepted_fits}
use Rattle.run.specs.declared.Run.{Run}
use Rattle.run.specs.Runs.{fresh_run}
use Rattle.run.specs.Fit.{Fits, TotalsFit}
use Rattle.run.proofs.Clauses.{fits_exact}
use Rattle.step.specs.declared.Stepped.{Stepped}
use Rattle.step.proofs.Fitting.{replicate_has}
use Rattle.lists.specs.declared.Listed.{Listed}
use Rattle.lists.specs.Lists.{is_done}
use Rattle.drain.specs.declared.Drained.{Drained}
use Rattle.drain.specs.Drains.{possible, lowest, drained_of}
use Rattle.station.specs.Entries.{step_on, steps_on, drain_on}
use Rattle.station.proofs.Admission.{Admitted, admitted, entry_by, step_admitted, steps_admitted, drain_admitted}
use Rattle.promises.specs.Grown.{after_steps, grown, over_steps}
use Rattle.promises.proofs.InOrder.{stepped_in, listed_in, counts_all, in_order, done_in_order}
use Rattle.promises.proofs.Reading.{at, read_job, read_out}
use Rattle.promises.proofs.Asked.{same_at}
use Rattle.promises.proofs.Along.{empty_at, fresh_at, Along, along_fresh, along_step, out_is, goes, said, was_done, was_ended}

-- ---- a fresh run fits any job
pub zeros_fit : (job : Job) (t : ℕ) → TotalsFit job t no_totals
zeros_fit job t = record { counts = omega arith; source = λ e. omega arith; sums = refl; empty = λ e. (refl, refl) }

pub fresh_fits : (job : Job) → Fits job fresh_run
fresh_fits job = record {
  channels = λ c l. record { room = omega (arith, empty_at 32 c); cylinders = λ j h. absurd (omega (arith, empty_at 32 c)) };
  no_channel = λ c h l. (empty_at 32 c, same_at 32 c false);
  no_task = λ t h l. record {
    live = same_at 16 t no_totals;
    half = same_at 16 t no_totals;
    last = same_at 16 t no_totals;
    stored = same_at 16 t 0;
    waiting = same_at 16 t 0;
  };
  waits = λ t l e. absurd (omega (arith, same_at {A = ℕ} 16 t 0));
  totals = λ t l. record { live = zero_at t; half = zero_at t; last = zero_at t };
  few = omega arith;
  counts = λ t l. (omega (arith, same_at {A = ℕ} 16 t 0), omega (arith, same_at {A = ℕ} 16 t 0));
}
  where
    zero_at : (t : ℕ) → TotalsFit job t (get_or (replicate 16 no_totals) t no_totals)
    zero_at t = replicate_has (TotalsFit job t) 16 no_totals no_totals t (zeros_fit job t) (zeros_fit job t)

-- the search and the drain of a job given by its columns, without the entry's checks
abbrev pub possible_in : Columns → Run → ℕ → Bool
possible_in J run k = possible (job_of J) J.cylinders J.values run k

abbrev pub lowest_in : Columns → Run → ℕ
lowest_in J run = lowest (job_of J) J.cylinders J.values run

abbrev pub drained_in : Columns → ℕ → ℕ → Run → Drained
drained_in J k steps run = drained_of (job_of J) J.cylinders J.values k steps run

module _ (J : Columns) (ok : job_answer J ≡ 0) where
  abbrev pub the_job : JobFits (job_of J) (length J.cylinders)
  the_job = accepted_fits J ok

  pub records_fine : RecordsFit J.cylinders J.values
  records_fine = fine4 J.cylinders J.values (fine_of J (λ j l. all_off J ok j (omega arith))).line4

  -- the job of `laws`, the run that a run is read as, and what goes along with it
  abbrev pub law_job : LawJob
  law_job = read_job (job_of J) J.cylinders J.values the_job

  abbrev pub at_run : Run → LawRun Record tot_mon.Car
  at_run run = at (job_of J) run

  abbrev pub Goes : Run → Type 0
  Goes run = Along (job_of J) J.cylinders J.values the_job run

  -- ---- every call on a fitting run is admitted
  module _ (run : Run) (F : Fits (job_of J) run) where
    let_in : Admitted J run (job_of J)
    let_in = admitted J run (entry_by J run true ok ((fits_exact (job_of J) the_job.sends.sized run).1 F))

    pub on_step : (k : ℕ) → step_on J run k ≡ stepped_in J run k
    on_step k = sym (step_admitted J run let_in k)

    pub on_list : (ks : List ℕ) → steps_on J run ks ≡ listed_in J run ks (length ks)
    on_list ks = sym (steps_admitted J run let_in ks)

    pub on_drain : (limit : ℕ) → drain_on J run limit ≡ drained_in J limit 0 run
    on_drain limit = sym (drain_admitted J run let_in limit)

  -- ---- one step of a run that goes along: without the checks, and by the call
  pub fresh_law : at_run fresh_run ≡ fresh_s law_job
  fresh_law = fresh_at (job_of J) J.cylinders J.values the_job

  module _ (run : Run) (A : Goes run) (k : ℕ) where
    pub out_at : step_f law_job (at_run run) k ≡ read_out (job_of J) (stepped_in J run k)
    out_at = out_is (job_of J) J.cylinders J.values the_job records_fine run A k

    pub went : after (at_run run) (step_f law_job (at_run run) k) ≡ at_run (stepped_in J run k).run
    went = goes (job_of J) J.cylinders J.values the_job records_fine run A k

    pub goes_stepped : Goes (stepped_in J run k).run
    goes_stepped = along_step (job_of J) J.cylinders J.values the_job records_fine run A k

    pub said_stepped : (was_done (step_f law_job (at_run run) k) ≡ is_done (stepped_in J run k).answer)
        × (was_ended (step_f law_job (at_run run) k) ≡ eqb (stepped_in J run k).answer 20)
    said_stepped = said (job_of J) J.cylinders J.values the_job records_fine run A k

    pub goes_step : Goes (step_on J run k).run
    goes_step = subst (λ (s : Stepped). Goes s.run) (sym (on_step run A.fits k)) goes_stepped

    pub after_at : after (at_run run) (step_f law_job (at_run run) k) ≡ at_run (step_on J run k).run
    after_at = went ∙ ap (λ (s : Stepped). at_run s.run) (sym (on_step run A.fits k))

    pub said_at : (was_done (step_f law_job (at_run run) k) ≡ is_done (step_on J run k).answer)
        × (was_ended (step_f law_job (at_run run) k) ≡ eqb (step_on J run k).answer 20)
    said_at =
        let q = on_step run A.fits k in (
          said_stepped.0 ∙ ap (λ (s : Stepped). is_done s.answer) (sym q),
          said_stepped.1 ∙ ap (λ (s : Stepped). eqb s.answer 20) (sym q),
        )

    pub done_at : (x : ℕ) → if_done (step_f law_job (at_run run) k) x ≡ cond (is_done (step_on J run k).answer) x 0
    done_at x = if_done_lem x (step_f law_job (at_run run) k) ∙ ap (λ b. cond b x 0) said_at.0
      where
        if_done_lem : (x : ℕ) (o : Out (LawRun Record tot_mon.Car)) → if_done o x ≡ cond (was_done o) x 0
        if_done_lem x (done s) = refl
        if_done_lem x (ended s) = refl
        if_done_lem x (refused a) = refl

  -- ---- steps one after another
  pub goes_steps : (run : Run) (ks : List ℕ) → Goes run → Goes (after_steps J run ks)
  unfolding after_steps
  goes_steps run [] A = A
  goes_steps run (k ∷ ks) A = goes_steps (step_on J run k).run ks (goes_step run A k)

  pub goes_fresh : Goes fresh_run
  goes_fresh = along_fresh (job_of J) J.cylinders J.values the_job records_fine (fresh_fits (job_of J))

  pub goes_grown : (ks : List ℕ) → Goes (grown J ks)
  goes_grown ks = goes_steps fresh_run ks goes_fresh

  pub exec_at : (run : Run) (ks : List ℕ) → Goes run → exec law_job ks (at_run run) ≡ at_run (after_steps J run ks)
  unfolding after_steps
  exec_at run [] A = refl
  exec_at run (k ∷ ks) A = ap (exec law_job ks) (after_at run A k) ∙ exec_at (step_on J run k).run ks (goes_step run A k)

  -- what is counted over the steps of a run is counted over those of the run that it is read as
  pub counts_at : (f : Run → ℕ → ℕ) (g : LawRun Record tot_mon.Car → ℕ → ℕ) (F : List ℕ → LawRun Record tot_mon.Car → ℕ)
      → ((s : LawRun Record tot_mon.Car) → F [] s ≡ 0)
      → ((s : LawRun Record tot_mon.Car) (k : ℕ) (ks : List ℕ) → F (k ∷ ks) s ≡ g s k + F ks (after s (step_f law_job s k)))
      → ((run : Run) (k : ℕ) → Goes run → cond (is_done (step_on J run k).answer) (f run k) 0 ≡ g (at_run run) k)
      → (run : Run) (ks : List ℕ) → Goes run → over_steps J f run ks ≡ F ks (at_run run)
  unfolding over_steps
  counts_at f g F none more same run [] A = sym (none (at_run run))
  counts_at f g F none more same run (k ∷ ks) A =
      ap₂ ◌+◌ (same run k A)
      (counts_at f g F none more same (step_on J run k).run ks (goes_step run A k) ∙ ap (F ks) (sym (after_at run A k)))
      ∙ sym (more (at_run run) k ks)

  -- ---- a list of steps
  module _ (run : Run) (A : Goes run) (ks : List ℕ) where
    pub steps_run : (steps_on J run ks).run ≡ after_steps J run ks
    steps_run = ap (λ (l : Listed). l.run) (on_list run A.fits ks) ∙ in_order J the_job records_fine on_step run A.fits ks

    pub steps_done_lem : (steps_on J run ks).done ≡ over_steps J (λ run k. 1) run ks
    steps_done_lem = ap (λ (l : Listed). l.done) (on_list run A.fits ks) ∙ done_in_order J the_job records_fine on_step run A.fits ks

    pub steps_answer : (steps_on J run ks).answer ≡ 0
    steps_answer =
        ap (λ (l : Listed). l.answer) (on_list run A.fits ks)
        ∙ (counts_all (job_of J) J.cylinders J.values run ks (length ks)).0
