-- 8. DEMAND 1 (`demand_1`): every call answers a number of the table, refuses exactly where the table says, and gives the run as it came.
use mathlib.Core.Path.{◌≡◌, refl, sym, ap, subst, ◌∙◌}
use mathlib.Core.Bool.{Bool, true, false, ◌&&◌, true≢false}
use mathlib.Core.List.{List, [], ◌∷◌, ◌++◌}
use Prim.Native.Nat.{ℕ, zero, suc, ◌+◌, ◌-◌, ◌<◌, ◌≤◌}
use native.Mathlib.Omega.{arith}
use borrow.Author.Tests.{eqb-true, eqb-false, eq-eqb, ne_eqb, ltb-true, ltb-false, le-leb, lt-leb, leb-true, leb-false}
use lib.Dec.{eqb, leb, ltb}
use lib.IntN.{ℤ, nat_abs}
use lib.ListN.{length, set, take}
use Rattle.channel.specs.declared.Cargo.{Cargo}
use Rattle.channel.specs.declared.Cargo.TheVariants.{Barrier, Record as Recorded}
use Rattle.channel.specs.declared.Channel.{Channel}
use Rattle.channel.specs.declared.Item.{Item}
use Rattle.channel.specs.Channels.{without_head}
use Rattle.channel.proofs.Queues.{added_16, added_14, added_0, added_holds, taken_16, taken_13, taken_0, taken_holds}
use Rattle.job.specs.declared.Job.{Job}
use Rattle.job.specs.Columns.{Columns, RecordsFit}
use Rattle.job.specs.Jobs.{job_of, b_of, to_of}
use Rattle.job.specs.Rules.{job_answer, first_fault, column_faults, graph_faults}
use Rattle.job.specs.Fits.{JobFits}
use Rattle.job.proofs.Exact.{exact}
use Rattle.job.proofs.Fits.{accepted_fits}
use Rattle.direct.specs.Direct.{directed_of}
use Rattle.run.specs.declared.Run.{Run}
use Rattle.run.specs.Fit.{Fits, channel_at, totals_at, flag_at, count_at}
use Rattle.outputs.specs.Outputs.{some_full, all_marked, all_stored}
use Rattle.step.specs.declared.Stepped.{Stepped}
use Rattle.step.specs.Algorithm.{answered, completed, barrier_received, record_received}
use Rattle.step.specs.Step.{with_cargo, delivered, is_no_source, offset_of, source_read, barrier_sent, begun, stepped}
use Rattle.step.proofs.Fitting.{cond_has}
use Rattle.step.proofs.Sources.{source_is}
use Rattle.step.proofs.Keeps.{stepped_fits}
use Rattle.lists.specs.Lists.{is_done}
use Rattle.drain.specs.Drains.{some_left, possible, first_from, lowest, drained_of}
use Rattle.station.specs.Entries.{entry, step_on, steps_on, drain_on}
use Rattle.station.proofs.Admission.{admitted, entry_job}
use Rattle.step.specs.Handlers.{Sized, Head, Open, Refused}
use Rattle.promises.specs.Demands.{Ends, Demand1, ChannelCalls}
use Rattle.promises.specs.Demands.Ends.{nothing_left, spent, stuck}
use Rattle.step.specs.Handlers.Refused.{no_channel, blocked, empty, no_room, no_room_to_pass, counted_out, cannot_read, read_out}
use Rattle.step.specs.Handlers.Refused.{no_room_to_read, cannot_send, none_waits, no_room_to_send, under_way, no_such_step}
use Rattle.promises.proofs.Conditions.{is_full_lem, full_is, no_full, not_full, is_completing, completing_is, is_source_lem}
use Rattle.promises.proofs.Conditions.{no_source, empty_count, taken_rest, at_head, at_empty, at_delivery, at_read, at_send, at_none}
use Rattle.promises.proofs.Conditions.{entry_fits, entry_misfits}
use Rattle.promises.proofs.InOrder.{OnStep, counts_all}

-- ---- a step
abbrev Done : Stepped → Type 0
Done s = is_done s.answer ≡ true

module _ (job : Job) (c v : List ℤ) (J : JobFits job (length c)) (run : Run) (F : Fits job run) (S : Sized run) where
  few : job.channels ≤ 32
  few = J.sends.sized.few_channels

  record_refused : (n k : ℕ) → (n < 32) → (o : Open job run n) → (x : Cargo) → Head run n x
      → with_cargo job run n x (without_head (channel_at run n)).channel ≡ answered k run → stepped job c v run n ≡ answered k run
  record_refused n k l o x h e =
      at_delivery job c v run n l ∙ at_head job J.sends.sized run F S n o x h ∙ e

  pub refused_by_lem : (n k : ℕ) → Refused job run n k → stepped job c v run n ≡ answered k run
  unfolding delivered record_received barrier_received source_read barrier_sent begun stepped
  refused_by_lem n k (no_channel l h) = at_delivery job c v run n l ∙ simp (le-leb job.channels n h)
  refused_by_lem n k (blocked l m) = at_delivery job c v run n (omega (arith, few)) ∙ simp (lt-leb job.channels n l, m)
  refused_by_lem n k (empty o e) =
      at_delivery job c v run n (omega (arith, few, o.0))
      ∙ at_empty job J.sends.sized run F S n o (empty_count job J.sends.sized run F S n o e)
  refused_by_lem n k (no_room o h f) =
      record_refused n 14 (omega (arith, few, o.0)) o _ h (simp (is_full_lem job J.sends.sized run F S (to_of job n) f))
  refused_by_lem n k (no_room_to_pass o h m f) =
      record_refused n 14 (omega (arith, few, o.0)) o _ h
      (simp (is_completing job J.sends.sized run F S n o.0 m, is_full_lem job J.sends.sized run F S (to_of job n) f))
  refused_by_lem n k (counted_out o h f e) =
      record_refused n 17 (omega (arith, few, o.0)) o _ h
      (simp (
        not_full job J.sends.sized run F S (to_of job n) f,
        le-leb 1048576 (totals_at run.live (to_of job n)).count (omega arith),
      ))
  refused_by_lem n k (cannot_read {t} l h) = at_read job c v run t l ∙ simp (no_source job J.sends.sized run F S t h)
  refused_by_lem n k (read_out {t} s e) =
      at_read job c v run t (omega (arith, J.sends.sized.few_tasks, s.0))
      ∙ simp (is_source_lem job J.sends.sized run F S t s, le-leb (nat_abs (b_of job t)) (offset_of run t) (omega arith))
  refused_by_lem n k (no_room_to_read {t} s l f) =
      at_read job c v run t (omega (arith, J.sends.sized.few_tasks, s.0))
      ∙ simp (
        is_source_lem job J.sends.sized run F S t s,
        lt-leb (nat_abs (b_of job t)) (offset_of run t) l,
        is_full_lem job J.sends.sized run F S t f,
      )
  refused_by_lem n k (cannot_send {t} l h) = at_send job c v run t l ∙ simp (no_source job J.sends.sized run F S t h)
  refused_by_lem n k (none_waits {t} s w) =
      at_send job c v run t (omega (arith, J.sends.sized.few_tasks, s.0)) ∙ simp (is_source_lem job J.sends.sized run F S t s, w)
  refused_by_lem n k (no_room_to_send {t} s w f) =
      at_send job c v run t (omega (arith, J.sends.sized.few_tasks, s.0))
      ∙ simp (
        is_source_lem job J.sends.sized run F S t s,
        ne_eqb (count_at run.waiting t) 0 (omega arith),
        is_full_lem job J.sends.sized run F S t f,
      )
  refused_by_lem n k (under_way u) = simp (le-leb 1 run.under_way u)
  refused_by_lem n k (no_such_step h) = at_none job c v run n h

  -- ---- a step that no line refuses is done
  completed_done : (next : Run) → Done (completed job next)
  unfolding completed
  completed_done next = cond_has Done (ltb 0 next.under_way && all_stored job next.stored) (λ _. refl) (λ _. refl)

  live_count : (t : ℕ) → t < job.tasks → (totals_at run.live t).count ≤ 1048576
  live_count t l = (F.totals t l).live.counts

  module _ (n : ℕ) (none : (k : ℕ) → Refused job run n k → ⊥) where
    cargo_done : Open job run n → (x : Cargo) → Head run n x → Done (with_cargo job run n x (without_head (channel_at run n)).channel)
    unfolding barrier_received record_received
    cargo_done o Barrier h =
        cond_has Done (all_marked job (set run.marked n true) (to_of job n))
        (λ m. cond_has Done (some_full job run.channels (to_of job n))
        (λ f. absurd (none 14 (no_room_to_pass o h (completing_is job J.sends.sized run F S n o.0 m)
        (full_is job J.sends.sized run F S (to_of job n) f))))
        (λ _. completed_done _)) (λ _. refl)
    cargo_done o (Recorded r) h =
        cond_has Done (some_full job run.channels (to_of job n))
        (λ f. absurd (none 14 (no_room o h (full_is job J.sends.sized run F S (to_of job n) f))))
        (λ f. cond_has Done (leb 1048576 (totals_at run.live (to_of job n)).count)
        (λ e. absurd (none 17 (counted_out o h (no_full job J.sends.sized run F S (to_of job n) f) (omega (
          arith,
          leb-true 1048576 (totals_at run.live (to_of job n)).count e,
          live_count (to_of job n) (J.sends.sized.to_task n o.0),
        )))))
        (λ _. refl))

    open_done : Open job run n → Done (delivered job run n)
    open_done o = go (eqb (channel_at run n).count 0) refl
      where
        go : (b : Bool) → eqb (channel_at run n).count 0 ≡ b → Done (delivered job run n)
        go true e =
            let z : (channel_at run n).count ≡ 0 = eqb-true (channel_at run n).count 0 e in
            absurd (none 13 (empty o (ap (λ k. take k (channel_at run n).items) z)))
        go false e =
            let p : 0 < (channel_at run n).count = omega (arith, eqb-false (channel_at run n).count 0 e) in
            let h : Head run n (without_head (channel_at run n)).item.cargo = (_, taken_rest job J.sends.sized run F S n o p) in
            subst Done (sym (at_head job J.sends.sized run F S n o _ h)) (cargo_done o _ h)

    delivery_done : n < 32 → Done (delivered job run n)
    unfolding delivered
    delivery_done l = go (leb job.channels n) refl (flag_at run.marked n) refl
      where
        go : (a : Bool) → leb job.channels n ≡ a → (b : Bool) → flag_at run.marked n ≡ b → Done (delivered job run n)
        go true e b q = absurd (none 11 (no_channel l (leb-true job.channels n e)))
        go false e true q = absurd (none 12 (blocked (leb-false job.channels n e) q))
        go false e false q = open_done (leb-false job.channels n e, q)

  read_done : (t : ℕ) → t < 16 → ((k : ℕ) → Refused job run (32 + t) k → ⊥) → Done (source_read job c v run t)
  unfolding source_read
  read_done t l none =
      cond_has Done (is_no_source job t)
      (λ e. absurd (none 11 (cannot_read l (λ s. true≢false (sym e ∙ is_source_lem job J.sends.sized run F S t s)))))
      (λ s. let src = source_is job t s in
      cond_has Done (leb (nat_abs (b_of job t)) (offset_of run t))
      (λ e.
      let h = leb-true (nat_abs (b_of job t)) (offset_of run t) e in
      absurd (none 13 (read_out src (omega (arith, h, (F.totals t src.0).live.source src.1)))))
      (λ e. cond_has Done (some_full job run.channels t)
      (λ f.
      let h = leb-false (nat_abs (b_of job t)) (offset_of run t) e in
      absurd (none 14 (no_room_to_read src h (full_is job J.sends.sized run F S t f))))
      (λ _. refl)))

  send_done : (t : ℕ) → t < 16 → ((k : ℕ) → Refused job run (48 + t) k → ⊥) → Done (barrier_sent job run t)
  unfolding barrier_sent
  send_done t l none =
      cond_has Done (is_no_source job t)
      (λ e. absurd (none 11 (cannot_send l (λ s. true≢false (sym e ∙ is_source_lem job J.sends.sized run F S t s)))))
      (λ s. let src = source_is job t s in
      cond_has Done (eqb (count_at run.waiting t) 0)
      (λ e. absurd (none 13 (none_waits src (eqb-true (count_at run.waiting t) 0 e))))
      (λ e. cond_has Done (some_full job run.channels t)
      (λ f. let w = eqb-false (count_at run.waiting t) 0 e in
      absurd (none 14 (no_room_to_send src (omega arith) (full_is job J.sends.sized run F S t f))))
      (λ _. completed_done _)))

  begin_done : ((k : ℕ) → Refused job run 64 k → ⊥) → Done (begun job run)
  unfolding begun
  begin_done none =
      cond_has Done (leb 1 run.under_way) (λ e. absurd (none 15 (under_way (leb-true 1 run.under_way e)))) (λ _. refl)

  pub done_by : (n : ℕ) → ((k : ℕ) → Refused job run n k → ⊥) → Done (stepped job c v run n)
  unfolding stepped
  done_by n none =
      cond_has Done (ltb n 32) (λ l. delivery_done n none (ltb-true n 32 l))
      (λ a. cond_has Done (ltb n 48)
      (λ l. let h = ltb-true n 48 l in let g = ltb-false n 32 a in
      read_done (n - 32) (omega arith) (λ k x. none k (subst (λ m. Refused job run m k) (omega arith) x)))
      (λ b. cond_has Done (ltb n 64)
      (λ l. let h = ltb-true n 64 l in let g = ltb-false n 48 b in
      send_done (n - 48) (omega arith) (λ k x. none k (subst (λ m. Refused job run m k) (omega arith) x)))
      (λ d. cond_has Done (eqb n 64) (λ e. begin_done (λ k x. none k (subst (λ m. Refused job run m k) (sym (eqb-true n 64 e)) x)))
      (λ e. cond_has Done (eqb n 65) (λ _. refl)
      (λ g. absurd (none 11 (no_such_step (omega (arith, ltb-false n 64 d, eqb-false n 64 e, eqb-false n 65 g)))))))))

-- ---- a search that comes to its end met no number that passes
none_passed : (test : ℕ → Bool) (k i n : ℕ) → first_from k i test ≡ i + k → i ≤ n → n < i + k → test n ≡ false
unfolding first_from
none_passed test zero i n e a b = absurd (omega arith)
none_passed test (suc k) i n e a b = go (test i) refl (none_passed test k (i + 1) n)
  where
    go : (x : Bool) → test i ≡ x → (first_from k (i + 1) test ≡ i + 1 + k → i + 1 ≤ n → n < i + 1 + k → test n ≡ false) → test n ≡ false
    go true q ih = absurd (omega (arith, simp q at e))
    go false q ih = at (eqb n i) refl
      where
        further : first_from k (i + 1) test ≡ i + 1 + k
        further = (simp q at e) ∙ omega arith

        at : (y : Bool) → eqb n i ≡ y → test n ≡ false
        at true z = ap test (eqb-true n i z) ∙ q
        at false z = let ne : n ≡ i → ⊥ = eqb-false n i z in ih further (omega arith) (omega arith)

-- ---- the first of so many lines
first_low : (xs : List Bool) (k : ℕ) → 0 < k → first_fault xs k < length xs + k
unfolding first_fault
first_low [] k p = omega arith
first_low (true ∷ xs) k p = omega arith
first_low (false ∷ xs) k p = omega (arith, first_low xs (suc k) (omega arith))

module _ (J : Columns) where
  at_most_9 : job_answer J ≤ 9
  unfolding job_answer
  at_most_9 = omega (arith, first_low (column_faults J ++ graph_faults (job_of J)) 1 (omega arith))

  module _ (z : job_answer J ≡ 0) (R : RecordsFit J.cylinders J.values) (on : OnStep J) where
    abbrev low : Run → ℕ
    low run = lowest (job_of J) J.cylinders J.values run

    abbrev next : Run → Run
    next run = (stepped (job_of J) J.cylinders J.values run (low run)).run

    ends_from : (k s : ℕ) (run : Run) → Fits (job_of J) run → Ends J (s + k) (drained_of (job_of J) J.cylinders J.values k s run)
    unfolding drained_of lowest possible
    ends_from zero s run F =
        cond_has (Ends J (s + 0)) (some_left (job_of J) run) (λ e. spent e (omega arith) refl) (λ e. nothing_left e (omega arith) refl)
    ends_from (suc k) s run F =
        cond_has (Ends J (s + suc k)) (some_left (job_of J) run)
        (λ e. cond_has (Ends J (s + suc k)) (eqb (low run) 64)
        (λ q. stuck e (omega arith) (λ n l.
        ap (λ (x : Stepped). is_done x.answer) (on run F n)
        ∙ none_passed (possible (job_of J) J.cylinders J.values run) 64 0 n (eqb-true (low run) 64 q) (omega arith) l) refl)
        (λ q.
        subst (λ m. Ends J m (drained_of (job_of J) J.cylinders J.values k (s + 1) (next run))) (omega arith)
        (ends_from k (s + 1) (next run) (stepped_fits (job_of J) J.cylinders J.values run (low run) (accepted_fits J z) R F))))
        (λ e. nothing_left e (omega arith) refl)

-- 8, THE CALLS ON ONE CHANNEL: "A channel that claims more than 8 items answers 16, adding to 8 items 14, taking from none 13, each with the
-- channel as it came and, for taking, a barrier."
pub channel_calls : (ch : Channel) (x : Item) → length ch.items ≡ 8 → ChannelCalls ch x
channel_calls ch x wide = record {
  add_16 = added_16 ch x;
  add_14 = added_14 ch x;
  add_0 = λ l. (added_0 ch x l, added_holds ch wide x l);
  take_16 = taken_16 ch;
  take_13 = taken_13 ch;
  take_0 = λ p l. (taken_0 ch p l, taken_holds ch wide p l);
}

-- 8. DEMAND 1: "Each refusal returns its number and the run as it came"; "Every other call on a run checks 1 to 9 first, then: 16"
pub demand_1 : (J : Columns) (run : Run) → Sized run → Demand1 J run
unfolding step_on steps_on drain_on directed_of
demand_1 J run S =
    let on : job_answer J ≡ 0 → OnStep J = λ ok x F n. simp (eq-eqb (entry J x) 0 (entry_fits J x ok F)) in
    record {
      check = (at_most_9 J, exact J);
      job_first = entry_job J run;
      then_16 = λ z. (
        (λ e. (admitted J run e).run_fits, entry_fits J run z),
        (λ e F. omega (arith, entry_fits J run z F), entry_misfits J run z),
      );
      shut = λ ne n limit ns. (simp (ne_eqb (entry J run) 0 ne), simp (ne_eqb (entry J run) 0 ne), simp (ne_eqb (entry J run) 0 ne));
      step_refused = λ z n k x. let A = admitted J run z in
          on A.accepted run A.run_fits n ∙ refused_by_lem (job_of J) J.cylinders J.values A.job_fits run A.run_fits S n k x;
      step_done = λ z n none. let A = admitted J run z in
          ap (λ (x : Stepped). is_done x.answer) (on A.accepted run A.run_fits n)
          ∙ done_by (job_of J) J.cylinders J.values A.job_fits run A.run_fits S n none;
      list = λ z ns. simp (eq-eqb (entry J run) 0 z) (counts_all (job_of J) J.cylinders J.values run ns (length ns));
      drain = λ z limit. let A = admitted J run z in
          let p : 0 + limit ≡ limit = omega arith in
          let e : drain_on J run limit ≡ drained_of (job_of J) J.cylinders J.values limit 0 run = simp (eq-eqb (entry J run) 0 z) in
          subst (λ m. Ends J m (drain_on J run limit)) p
          (subst (Ends J (0 + limit)) (sym e) (ends_from J A.accepted A.records_fit (on A.accepted) limit 0 run A.run_fits));
      direct_job = λ ne counts. simp (ne_eqb (job_answer J) 0 ne);
      direct_35 = λ z counts f. simp (eq-eqb (job_answer J) 0 z, f);
      direct_0 = λ z counts f. simp (eq-eqb (job_answer J) 0 z, f);
    }
