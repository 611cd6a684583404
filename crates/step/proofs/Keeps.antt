-- A STEP KEEPS A FITTING RUN FITTING (`stepped_fits`), part by part and then by the step's number.
use mathlib.Core.Bool.{Bool, true, false, cond, ◌&&◌, false≢true}
use mathlib.Core.Path.{◌≡◌, refl, sym, ◌∙◌}
use mathlib.Core.List.{List}
use Prim.Native.Nat.{ℕ, ◌+◌, ◌-◌, ◌≤◌, ◌<◌}
use native.Mathlib.Omega.{arith}
use borrow.Author.Tests.{ltb-true, leb-false, eqb-true}
use lib.Dec.{ltb, leb, eqb}
use lib.IntN.{ℤ, nat_abs}
use lib.ListN.{set, length}
use Rattle.tally.specs.declared.Record.{Record}
use Rattle.tally.specs.declared.Totals.{Totals}
use Rattle.tally.specs.Totals.{no_totals}
use Rattle.channel.specs.declared.Cargo.{Cargo}
use Rattle.channel.specs.declared.Cargo.TheVariants.{Barrier, Record as Recorded}
use Rattle.channel.specs.Channels.{without_head}
use Rattle.job.specs.declared.Job.{Job}
use Rattle.job.specs.Columns.{RecordsFit}
use Rattle.job.specs.Jobs.{a_of, b_of, to_of, is_source}
use Rattle.job.specs.Fits.{JobFits}
use Rattle.run.specs.declared.Run.{Run}
use Rattle.run.specs.Fit.{channel_at, totals_at, flag_at, count_at, cargo_fits, Fits}
use Rattle.run.proofs.Ints.{is_value_lem}
use Rattle.outputs.specs.Outputs.{some_full, all_marked, all_stored, unmarked, at_most_of, sources_wait}
use Rattle.outputs.proofs.Places.{at_most}
use Rattle.outputs.proofs.Cargos.{value_fits}
use Rattle.step.specs.declared.Stepped.{Stepped}
use Rattle.step.specs.Algorithm.{completed, stored_by, barrier_received, taken_in, record_received}
use Rattle.step.specs.Step.{with_cargo, with_taken, delivered, is_no_source, offset_of, next_record, source_read, barrier_sent}
use Rattle.step.specs.Step.{begun, cut_off, stepped}
use Rattle.step.proofs.Rooms.{with_fits}
use Rattle.step.proofs.Sources.{source_is, head_fits}
use Rattle.step.proofs.Lent.{record_fits, inside_part, part_short}
use Rattle.step.proofs.Fitting.{cond_has, turn_first, set_has, places_have, TotalsPlace, MarkPlace, StoredPlace, WaitPlace, Placed}
use Rattle.step.proofs.Fitting.{fits_of, placed, put_all_placed, rest_placed, emptied_placed, zeros_placed}
use Rattle.step.proofs.Fitting.{unset, unwaiting, unstored, no_totals_lem, no_wait, none_stored}

module _ (job : Job) where
  -- the snapshot becomes the last complete one
  completed_placed : (run : Run) → Placed job run → Placed job (completed job run).run
  unfolding completed
  completed_placed run P =
      cond_has (λ (s : Stepped). Placed job s.run) (ltb 0 run.under_way && all_stored job run.stored)
      (λ _. record {
        channels = P.channels;
        marked = P.marked;
        waiting = P.waiting;
        live = P.live;
        half = λ t l. zeros_placed job t;
        stored = λ t l. unstored job t;
        last = P.half;
        under_way = omega arith;
      }) (λ _. P)

  -- task t stores and puts a barrier on every output
  stored_placed : (run : Run) (t : ℕ) → t < job.tasks → Placed job run → Placed job (stored_by job run t)
  unfolding stored_by
  stored_placed run t lt P = record {
    channels = put_all_placed job t Barrier run.channels refl P.channels;
    marked = P.marked;
    waiting = P.waiting;
    live = P.live;
    half = λ u. set_has (λ u x. u < 16 → TotalsPlace job u x) run.half t _ no_totals u (P.live t) (λ l. no_totals_lem job u) (λ ne. P.half u);
    stored = λ u. set_has (λ u x. u < 16 → StoredPlace job u x) run.stored t _ 0 u
        (λ l. record {
          few = omega (arith, turn_first (count_at run.stored t) run.under_way P.under_way);
          unused = λ h. absurd (omega arith);
        })
        (λ l. none_stored job u) (λ ne. P.stored u);
    last = P.last;
    under_way = P.under_way;
  }

  barrier_placed : (run : Run) (t c : ℕ) → t < job.tasks → c < job.channels → Placed job run
      → Placed job (barrier_received job run t c (without_head (channel_at run c)).channel).run
  unfolding barrier_received unmarked
  barrier_placed run t c lt lc P =
      let marks : (d : ℕ) → d < 32 → MarkPlace job d (flag_at (set run.marked c true) d) =
      λ d. set_has (λ d x. d < 32 → MarkPlace job d x) run.marked c true false d (λ l h. absurd (omega arith)) (λ l h. refl) (λ ne. P.marked d) in
      let rest = rest_placed job run c P in
      cond_has (λ (s : Stepped). Placed job s.run) (all_marked job (set run.marked c true) t)
      (λ _. cond_has (λ (s : Stepped). Placed job s.run) (some_full job run.channels t) (λ _. P)
      (λ _. completed_placed _ (stored_placed _ t lt (record {
        channels = rest;
        marked = places_have (λ d x. d < 32 → MarkPlace job d x) false _ (set run.marked c true) job.channels
            (λ d x l p i h. absurd (omega arith)) (λ d i h. refl) marks;
        waiting = P.waiting;
        live = P.live;
        half = P.half;
        stored = P.stored;
        last = P.last;
        under_way = P.under_way;
      }))))
      (λ _. record {
        channels = rest;
        marked = marks;
        waiting = P.waiting;
        live = P.live;
        half = P.half;
        stored = P.stored;
        last = P.last;
        under_way = P.under_way;
      })

  -- a record counted and sent on
  taken_in_placed : (run : Run) (t : ℕ) (r : Record) → t < job.tasks → cargo_fits (Recorded r) ≡ true → (totals_at run.live t).count < 1048576
      → (is_source job t ≡ true → (totals_at run.live t).count < nat_abs (b_of job t)) → Placed job run → Placed job (taken_in job run t r)
  unfolding taken_in
  taken_in_placed run t r lt k h s P = record {
    channels = put_all_placed job t (Recorded r) run.channels k P.channels;
    marked = P.marked;
    waiting = P.waiting;
    live = λ u. set_has (λ u x. u < 16 → TotalsPlace job u x) run.live t _ no_totals u
        (λ l. record { fits = λ i. with_fits job t _ r.value ((P.live t l).fits i) (is_value_lem r.value (value_fits r k)) h s; unused = λ out. absurd (omega arith) })
        (λ l. no_totals_lem job u) (λ ne. P.live u);
    half = P.half;
    stored = P.stored;
    last = P.last;
    under_way = P.under_way;
  }

  record_placed : (run : Run) (t c : ℕ) (r : Record) → t < job.tasks → is_source job t ≡ false → cargo_fits (Recorded r) ≡ true → Placed job run
      → Placed job (record_received job run t c r (without_head (channel_at run c)).channel).run
  unfolding record_received
  record_placed run t c r lt other k P =
      cond_has (λ (s : Stepped). Placed job s.run) (some_full job run.channels t) (λ _. P)
      (λ _. cond_has (λ (s : Stepped). Placed job s.run) (leb 1048576 (totals_at run.live t).count) (λ _. P)
      (λ h. taken_in_placed _ t r lt k (leb-false 1048576 _ h) (λ e. absurd (false≢true (sym other ∙ e))) (record {
        channels = rest_placed job run c P;
        marked = P.marked;
        waiting = P.waiting;
        live = P.live;
        half = P.half;
        stored = P.stored;
        last = P.last;
        under_way = P.under_way;
      })))

  module _ (records : ℕ) (J : JobFits job records) where
    few : job.tasks ≤ 16
    few = J.sends.sized.few_tasks

    cargo_placed : (run : Run) (c : ℕ) (cargo : Cargo) → c < job.channels → cargo_fits cargo ≡ true → Placed job run
        → Placed job (with_cargo job run c cargo (without_head (channel_at run c)).channel).run
    cargo_placed run c Barrier lc k P = barrier_placed run (to_of job c) c (J.sends.sized.to_task c lc) lc P
    cargo_placed run c (Recorded r) lc k P = record_placed run (to_of job c) c r (J.sends.sized.to_task c lc) (J.no_input c lc) k P

    delivered_placed : (run : Run) (c : ℕ) → c < 32 → Placed job run → Placed job (delivered job run c).run
    unfolding delivered with_taken
    delivered_placed run c l P =
        let got = without_head (channel_at run c) in
        cond_has (λ (s : Stepped). Placed job s.run) (leb job.channels c) (λ _. P)
        (λ inside. cond_has (λ (s : Stepped). Placed job s.run) (flag_at run.marked c) (λ _. P)
        (λ _. cond_has (λ (s : Stepped). Placed job s.run) (eqb got.answer 0)
        (λ z. cargo_placed run c got.item.cargo (leb-false job.channels c inside)
        (head_fits job run c got got.item.cargo l (fits_of job few run P) refl (eqb-true got.answer 0 z) refl) P) (λ _. P)))

    read_placed : (c v : List ℤ) (run : Run) (t : ℕ) → length c ≡ records → RecordsFit c v → Placed job run → Placed job (source_read job c v run t).run
    unfolding source_read next_record
    read_placed c v run t e R P =
        cond_has (λ (s : Stepped). Placed job s.run) (is_no_source job t) (λ _. P)
        (λ is. cond_has (λ (s : Stepped). Placed job s.run) (leb (nat_abs (b_of job t)) (offset_of run t)) (λ _. P)
        (λ more. cond_has (λ (s : Stepped). Placed job s.run) (some_full job run.channels t) (λ _. P)
        (λ _. taking (source_is job t is) (leb-false (nat_abs (b_of job t)) (offset_of run t) more))))
      where
        taking : (t < job.tasks) × (is_source job t ≡ true) → offset_of run t < nat_abs (b_of job t) → Placed job (taken_in job run t (next_record job c v run t))
        taking s low =
            let at = inside_part job records t (offset_of run t) J s.0 s.1 low in
            taken_in_placed run t _ s.0 (record_fits c v (nat_abs (a_of job t) + offset_of run t) R (omega (arith, at, e)))
            (omega (arith, low, part_short job records t J s.0 s.1)) (λ _. low) P

    sent_placed : (run : Run) (t : ℕ) → Placed job run → Placed job (barrier_sent job run t).run
    unfolding barrier_sent
    sent_placed run t P =
        cond_has (λ (s : Stepped). Placed job s.run) (is_no_source job t) (λ _. P)
        (λ is. cond_has (λ (s : Stepped). Placed job s.run) (eqb (count_at run.waiting t) 0) (λ _. P)
        (λ _. cond_has (λ (s : Stepped). Placed job s.run) (some_full job run.channels t) (λ _. P)
        (λ _. completed_placed _ (stored_placed _ t (source_is job t is).0 (record {
          channels = P.channels;
          marked = P.marked;
          waiting = λ u. set_has (λ u x. u < 16 → WaitPlace job u x) run.waiting t _ 0 u
              (λ l. record {
                few = omega (arith, (P.waiting t l).few);
                source = λ i e. (P.waiting t l).source i (omega arith);
                unused = λ h. omega (arith, (P.waiting t l).unused h);
              }) (λ l. no_wait job u) (λ ne. P.waiting u);
          live = P.live;
          half = P.half;
          stored = P.stored;
          last = P.last;
          under_way = P.under_way;
        })))))

    begun_placed : (run : Run) → Placed job run → Placed job (begun job run).run
    unfolding begun sources_wait
    begun_placed run P =
        cond_has (λ (s : Stepped). Placed job s.run) (leb 1 run.under_way) (λ _. P)
        (λ e. let none = leb-false 1 run.under_way e in
        record {
          channels = P.channels;
          marked = P.marked;
          waiting = places_have (λ t x. t < 16 → WaitPlace job t x) 0 _ run.waiting job.tasks
              (λ t x l p i. waits t x (is_source job t) refl (omega arith) l (p i)) (λ t i. no_wait job t) P.waiting;
          live = P.live;
          half = λ t l. zeros_placed job t;
          stored = λ t l. unstored job t;
          last = P.last;
          under_way = omega arith;
        })
      where
        waits : (t x : ℕ) (b : Bool) → is_source job t ≡ b → run.under_way < 1 → t < job.tasks → WaitPlace job t x
            → WaitPlace job t (cond b (at_most_of run.under_way x + 1) x)
        waits t x true e none l p = record {
          few = omega (arith, at_most run.under_way x);
          source = λ i h. e;
          unused = λ h. absurd (omega arith);
        }
        waits t x false e none l p = p

    cut_placed : (run : Run) → Placed job run → Placed job (cut_off run)
    unfolding cut_off
    cut_placed run P = record {
      channels = λ c l. emptied_placed job c;
      marked = λ c l h. unset job 32 c;
      waiting = λ t l. unwaiting job t;
      live = λ t l. cond_has (λ (x : List Totals). TotalsPlace job t (totals_at x t)) run.complete (λ _. P.last t l) (λ _. zeros_placed job t);
      half = λ t l. zeros_placed job t;
      stored = λ t l. unstored job t;
      last = P.last;
      under_way = omega arith;
    }

    stepped_placed : (c v : List ℤ) (run : Run) (n : ℕ) → length c ≡ records → RecordsFit c v → Placed job run → Placed job (stepped job c v run n).run
    unfolding stepped
    stepped_placed c v run n e R P =
        cond_has (λ (s : Stepped). Placed job s.run) (ltb n 32) (λ l. delivered_placed run n (ltb-true n 32 l) P)
        (λ _. cond_has (λ (s : Stepped). Placed job s.run) (ltb n 48) (λ _. read_placed c v run (n - 32) e R P)
        (λ _. cond_has (λ (s : Stepped). Placed job s.run) (ltb n 64) (λ _. sent_placed run (n - 48) P)
        (λ _. cond_has (λ (s : Stepped). Placed job s.run) (eqb n 64) (λ _. begun_placed run P)
        (λ _. cond_has (λ (s : Stepped). Placed job s.run) (eqb n 65) (λ _. cut_placed run P) (λ _. P)))))

-- EVERY STEP, done or refused, keeps a fitting run fitting
pub stepped_fits : (job : Job) (c v : List ℤ) (run : Run) (n : ℕ) → JobFits job (length c) → RecordsFit c v → Fits job run
    → Fits job (stepped job c v run n).run
stepped_fits job c v run n J R F =
    let few = J.sends.sized.few_tasks in
    fits_of job few _ (stepped_placed job (length c) J c v run n refl R (placed job few run F))
