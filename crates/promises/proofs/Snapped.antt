-- Statement 2: each complete snapshot is direct evaluation's at the offsets that the onlooker noted when its sources sent their barriers.
use mathlib.Core.Path.{◌≡◌, refl, sym, ap, ap₂, subst, ◌∙◌}
use mathlib.Core.Bool.{Bool, true, false, cond, ◌&&◌, ◌||◌}
use mathlib.Core.List.{List, [], ◌∷◌, ◌++◌, append-nil}
use Prim.Native.Nat.{ℕ, ◌+◌, ◌-◌, ◌<◌, ◌≤◌}
use native.Mathlib.Omega.{arith}
use borrow.Author.Tests.{ltb-true, ltb-false, eqb-true, eqb-false, eq-eqb, ne_eqb}
use lib.Dec.{eqb, ltb}
use lib.ListN.{length, length-replicate}
use Rattle.laws.specs.Received.{keep}
use Rattle.laws.specs.Totals.{tot_mon}
use Rattle.laws.specs.Run.{Run as LawRun}
use Rattle.laws.specs.Step.{Out, done, ended, refused, step_f}
use Rattle.laws.specs.Onlooker.{first_of, rest_of, queued, note, notes, Agrees}
use Rattle.laws.specs.Onlooker.{Notes as LawNotes}
use Rattle.laws.proofs.Below.{tab_ext}
use Rattle.laws.proofs.Offsets.{offsets_noted, start_agrees}
use Rattle.laws.proofs.Views.{last_direct}
use Rattle.tally.specs.declared.Record.{Record}
use Rattle.tally.specs.declared.Totals.{Totals}
use Rattle.tally.specs.Totals.{no_totals}
use Rattle.job.specs.Columns.{Columns}
use Rattle.job.specs.Jobs.{job_of, is_source}
use Rattle.job.specs.Rules.{job_answer}
use Rattle.direct.specs.Direct.{directed_of}
use Rattle.run.specs.declared.Run.{Run}
use Rattle.run.specs.Runs.{fresh_run}
use Rattle.run.specs.Fit.{TotalsFit, totals_at}
use Rattle.step.specs.declared.Stepped.{Stepped}
use Rattle.step.specs.Step.{offset_of, last_or_none}
use Rattle.step.proofs.Fitting.{cond_has}
use Rattle.lists.specs.Lists.{is_done}
use Rattle.station.specs.Entries.{step_on}
use Rattle.promises.specs.Grown.{after_steps, grown, Notes, noted, notes_of, no_notes, notes_at, counts_for}
use Rattle.promises.specs.Promises.{Snapshots}
use Rattle.promises.proofs.Reading.{source_of, source_is}
use Rattle.promises.proofs.Asked.{same_at}
use Rattle.promises.proofs.Along.{was_done, was_ended}
use Rattle.promises.proofs.Grows.{zeros_fit, the_job, law_job, at_run, Goes, on_step, fresh_law, goes_step, after_at, said_at}
use Rattle.promises.proofs.Grows.{goes_fresh, goes_grown, exec_at}
use Rattle.promises.proofs.Counted.{directed_is}
use Rattle.promises.proofs.Flags.{step_complete}

-- a step 48 + u, as `laws` asks for it
is_send : (k u : ℕ) → u < 16 → eqb k (48 + u) ≡ cond (ltb k 48) false (cond (ltb k 64) (eqb u (k - 48)) false)
is_send k u l = go (ltb k 48) refl (ltb k 64) refl (eqb u (k - 48)) refl
  where
    go : (x : Bool) → ltb k 48 ≡ x → (y : Bool) → ltb k 64 ≡ y → (z : Bool) → eqb u (k - 48) ≡ z
        → eqb k (48 + u) ≡ cond x false (cond y z false)
    go true p y q z r = ne_eqb k (48 + u) (λ e. omega (arith, ltb-true k 48 p))
    go false p true q true r = eq-eqb k (48 + u) (omega (arith, ltb-false k 48 p, eqb-true u (k - 48) r))
    go false p true q false r = ne_eqb k (48 + u) (λ e. eqb-false u (k - 48) r (omega arith))
    go false p false q z r = ne_eqb k (48 + u) (λ e. omega (arith, ltb-false k 64 q))

module _ (J : Columns) (ok : job_answer J ≡ 0) where
  -- what is read of a source is its own
  of_source : (x t : ℕ) → t < (job_of J).tasks → is_source (job_of J) t ≡ true → cond (source_of (job_of J) t) x 0 ≡ x
  of_source x t l e = ap (λ b. cond b x 0) (source_is (job_of J) t l ∙ e)

  -- notes that say the same of the sources
  abbrev SameNotes : Notes → LawNotes → Type 0
  SameNotes h h' =
      (u : ℕ) → u < (job_of J).tasks → is_source (job_of J) u ≡ true → (h.sent u ≡ h'.sent u) × (h.complete u ≡ h'.complete u)

  module _ (run : Run) (A : Goes J ok run) (k : ℕ) where
    step_notes : (h : Notes) (h' : LawNotes) → SameNotes h h'
        → SameNotes (noted k (step_on J run k).answer (offset_of run) h)
        (note (law_job J ok) (at_run J ok run) k (step_f (law_job J ok) (at_run J ok run) k) h')
    step_notes h h' same u l e =
        go (step_f (law_job J ok) (at_run J ok run) k) (sym (said_at J ok run A k).0) (sym (said_at J ok run A k).1)
      where
        few : u < 16
        few = omega (arith, (the_job J ok).sends.sized.few_tasks)

        queue : Bool → List ℕ
        queue d = h.sent u ++ keep (d && eqb k (48 + u)) (offset_of run u ∷ [])

        queue_is : queue true ≡ queued (law_job J ok) (at_run J ok run) k h'.sent u
        queue_is =
            ap₂ (λ q x. q ++ keep (eqb k (48 + u)) (x ∷ [])) (same u l e).0 (sym (of_source (offset_of run u) u l e))
            ∙ ap (λ b. h'.sent u ++ keep b ((at_run J ok run).off u ∷ [])) (is_send k u few)

        answer : ℕ
        answer = (step_on J run k).answer

        sent : Bool → Bool → List ℕ
        sent d n = cond n (rest_of (queue d)) (cond (d && eqb k 65) [] (queue d))

        go : (o : Out (LawRun Record tot_mon.Car)) → is_done answer ≡ was_done o → eqb answer 20 ≡ was_ended o
            → (sent (is_done answer) (eqb answer 20) ≡ (note (law_job J ok) (at_run J ok run) k o h').sent u)
            × (cond (eqb answer 20) (first_of (queue (is_done answer))) (h.complete u)
            ≡ (note (law_job J ok) (at_run J ok run) k o h').complete u)
        go (done s) d n = (
          ap₂ sent d n ∙ ap (cond (eqb k 65) []) queue_is,
          ap (λ b. cond b (first_of (queue (is_done answer))) (h.complete u)) n ∙ (same u l e).1,
        )
        go (ended s) d n = (
          ap₂ sent d n ∙ ap rest_of queue_is,
          ap₂ (λ b c. cond b (first_of (queue c)) (h.complete u)) n d ∙ ap first_of queue_is,
        )
        go (refused a) d n = (
          ap₂ sent d n ∙ append-nil (h.sent u) ∙ (same u l e).0,
          ap (λ b. cond b (first_of (queue (is_done answer))) (h.complete u)) n ∙ (same u l e).1,
        )

    step_seen : (step_on J run k).run.complete ≡ run.complete || eqb (step_on J run k).answer 20
    step_seen =
        subst (λ (s : Stepped). s.run.complete ≡ run.complete || eqb s.answer 20) (sym (on_step J ok run A.fits k))
        (step_complete run (job_of J) J.cylinders J.values k)

  -- ---- over a list of steps
  all_notes : (run : Run) (ks : List ℕ) (h : Notes) (h' : LawNotes) → Goes J ok run → SameNotes h h'
      → SameNotes (notes_of J run ks h) (notes (law_job J ok) ks (at_run J ok run) h')
  unfolding notes_of
  all_notes run [] h h' A same = same
  all_notes run (k ∷ ks) h h' A same =
      let g = noted k (step_on J run k).answer (offset_of run) h in
      let g' = note (law_job J ok) (at_run J ok run) k (step_f (law_job J ok) (at_run J ok run) k) h' in
      subst (λ s. SameNotes (notes_of J (step_on J run k).run ks g) (notes (law_job J ok) ks s g')) (sym (after_at J ok run A k))
      (all_notes (step_on J run k).run ks g g' (goes_step J ok run A k) (step_notes run A k h h' same))

  notes_seen : (run : Run) (ks : List ℕ) (h : Notes) → Goes J ok run → run.complete ≡ h.any
      → (after_steps J run ks).complete ≡ (notes_of J run ks h).any
  unfolding after_steps notes_of
  notes_seen run [] h A e = e
  notes_seen run (k ∷ ks) h A e =
      notes_seen (step_on J run k).run ks (noted k (step_on J run k).answer (offset_of run) h) (goes_step J ok run A k)
      (step_seen run A k ∙ ap (λ b. b || eqb (step_on J run k).answer 20) e)

  -- ---- grown runs
  module _ (ks : List ℕ) where
    -- the totals that a cut restores fit
    last_fits : (u : ℕ) → u < (job_of J).tasks → TotalsFit (job_of J) u (totals_at (last_or_none (grown J ks)) u)
    last_fits u l =
        cond_has (λ (x : List Totals). TotalsFit (job_of J) u (totals_at x u)) (grown J ks).complete
        (λ _. ((goes_grown J ok ks).fits.totals u l).last)
        (λ _. subst (TotalsFit (job_of J) u) (sym (same_at 16 u no_totals)) (zeros_fit (job_of J) u))

    last_long : length (last_or_none (grown J ks)) ≡ 16
    last_long =
        cond_has (λ (x : List Totals). length x ≡ 16) (grown J ks).complete (λ _. (goes_grown J ok ks).sized.last)
        (λ _. length-replicate 16 no_totals)

    last_past : (u : ℕ) → (job_of J).tasks ≤ u → u < 16 → totals_at (last_or_none (grown J ks)) u ≡ no_totals
    last_past u h l =
        cond_has (λ (x : List Totals). totals_at x u ≡ no_totals) (grown J ks).complete
        (λ _. ((goes_grown J ok ks).fits.no_task u h l).last) (λ _. same_at 16 u no_totals)

    offsets : (s : ℕ) → s < (job_of J).tasks → is_source (job_of J) s ≡ true
        → (totals_at (last_or_none (grown J ks)) s).count ≡ (notes_at J ks).complete s
    offsets s l e =
        let none : LawNotes = record { sent = λ t. []; complete = λ t. 0 } in
        let agree = offsets_noted (law_job J ok) (the_job J ok).some_task ks (at_run J ok fresh_run) none (goes_fresh J ok).good
        (subst (λ s. Agrees (law_job J ok) s none) (sym (fresh_law J ok)) (start_agrees (law_job J ok) (λ t. tot_mon.unit) (λ t. 0))) in
        sym (of_source (totals_at (last_or_none (grown J ks)) s).count s l e)
        ∙ ap (λ r. r.last_off s) (sym (exec_at J ok fresh_run ks (goes_fresh J ok)))
        ∙ agree.last_noted s l (source_is (job_of J) s l ∙ e)
        ∙ sym (all_notes fresh_run ks no_notes none (goes_fresh J ok) (λ u l e. (refl, refl)) s l e).1

    totals : directed_of J (counts_for J (notes_at J ks).complete) ≡ record { totals = last_or_none (grown J ks); answer = 0 }
    totals =
        let offs = (at_run J ok (grown J ks)).last_off in
        let at : (s : ℕ) → s < (job_of J).tasks → is_source (job_of J) s ≡ true → offs s ≡ (totals_at (last_or_none (grown J ks)) s).count =
        λ s l e. of_source (totals_at (last_or_none (grown J ks)) s).count s l e in
        ap (directed_of J) (tab_ext (job_of J).tasks _ _ (λ t l. same t l (is_source (job_of J) t) refl))
        ∙ directed_is J ok offs (λ t l e. omega (arith, at t l e, (last_fits t l).source e)) (last_or_none (grown J ks)) last_long
        (λ u l. last_direct (law_job J ok) (at_run J ok (grown J ks)) (goes_grown J ok ks).good.inv (λ c l. refl) u l)
        last_fits last_past
      where
        same : (t : ℕ) → t < (job_of J).tasks → (b : Bool) → is_source (job_of J) t ≡ b
            → cond b ((notes_at J ks).complete t) 0 ≡ cond b ((at_run J ok (grown J ks)).last_off t) 0
        same t l true e =
            sym (offsets t l e) ∙ sym (of_source (totals_at (last_or_none (grown J ks)) t).count t l e)
        same t l false e = refl

  -- THE SNAPSHOTS
  pub snapshots : (ks : List ℕ) → Snapshots J ks
  snapshots ks = record {
    seen = notes_seen fresh_run ks no_notes (goes_fresh J ok) refl;
    offsets = offsets ks;
    totals = totals ks;
  }
