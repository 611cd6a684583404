-- 7. DEMAND 2 (`demand_2`): a step that the rules do not refuse does what Algorithm 1's handlers do on the task's own channels.
use mathlib.Core.Path.{◌≡◌, refl, sym, ap, subst, ◌∙◌}
use mathlib.Core.Bool.{Bool, true, false, cond, not, ◌&&◌, true≢false}
use mathlib.Core.List.{List, ◌∷◌}
use Prim.Native.Nat.{ℕ, ◌+◌, ◌<◌, ◌≤◌, ◌-◌}
use native.Mathlib.Omega.{arith}
use borrow.Author.Tests.{eqb-true, eq-eqb, ltb-true, ltb-false, lt-leb, lt-ltb, ne_eqb}
use lib.Dec.{ltb}
use lib.IntN.{ℤ, nat_abs}
use lib.ListN.{length, get_or, set, length-set}
use lib.Seq.{get_or-set_same, get_or-set_other}
use Rattle.tally.specs.declared.Record.{Record}
use Rattle.tally.specs.Totals.{no_totals}
use Rattle.channel.specs.declared.Cargo.{Cargo}
use Rattle.channel.specs.declared.Cargo.TheVariants.{Barrier, Record as Recorded}
use Rattle.channel.specs.declared.Channel.{Channel}
use Rattle.channel.specs.Channels.{held, without_head}
use Rattle.job.specs.declared.Job.{Job}
use Rattle.job.specs.Columns.{Columns}
use Rattle.job.specs.Jobs.{job_of, b_of, to_of, from_of, is_source, is_input}
use Rattle.job.specs.Fits.{JobFits}
use Rattle.job.proofs.Bools.{both_true}
use Rattle.job.proofs.Tests.{every_all, all_every}
use Rattle.run.specs.declared.Run.{Run}
use Rattle.run.specs.Runs.{no_channel, with_channels, with_marked, with_waiting}
use Rattle.run.specs.Fit.{Fits, channel_at, totals_at, flag_at, count_at}
use Rattle.run.proofs.Clauses.{and_of}
use Rattle.outputs.specs.Outputs.{put_all, all_stored, unmarked, one_more_waits, sources_wait}
use Rattle.outputs.proofs.Places.{at_most, place_at, place_past}
use Rattle.step.specs.declared.Stepped.{Stepped}
use Rattle.step.specs.Algorithm.{answered, sealed, completed, stored_by, barrier_received, taken_in, record_received}
use Rattle.step.specs.Step.{with_cargo, offset_of, next_record, source_read, barrier_sent, begun, cut_off, stepped}
use Rattle.lists.specs.declared.Listed.{Listed}
use Rattle.station.specs.Entries.{entry, step_on, steps_on}
use Rattle.station.proofs.Admission.{admitted}
use Rattle.step.specs.Handlers.{Sized, Head, Open, Full, Completes, Source, HeadTaken, Sent, Received, Marked, Passed, Sealed}
use Rattle.promises.specs.Demands.{Demand2}
use Rattle.step.proofs.Fitting.{turn_first}
use Rattle.promises.proofs.Conditions.{fails, not_full, is_completing, not_completing, is_source_lem, head_count, head_is}
use Rattle.promises.proofs.Conditions.{taken_rest, at_head, at_delivery, at_read, at_send, at_begin, at_cut}
use Rattle.promises.proofs.Conditions.{entry_fits}
use Rattle.promises.proofs.Queued.{items_for, Wide, popped, rest_wide, fewer, outputs_hold, others_same}
use Rattle.promises.proofs.InOrder.{OnStep, listed_in, in_order, done_in_order}

module _ (job : Job) (few : job.channels ≤ 32) where
  -- what handlers find: 32 channels of 8 places, arrays for 16 tasks, and room on the outputs of task t
  record Ready (x : Run) (t : ℕ) : Type 0 where
    pub queues : Wide x.channels
    pub live : t < length x.live
    pub half : t < length x.half
    pub stored : t < length x.stored
    pub room : (d : ℕ) → d < job.channels → from_of job d ≡ t → (channel_at x d).count < 8

  sent : (cargo : Cargo) (x : Run) (t : ℕ) → Ready x t → (y : Run) → y.channels ≡ put_all job t cargo x.channels
      → Sent job x y t (items_for job cargo)
  sent cargo x t R y e = record {
    outputs = λ d ld f.
        ap (λ l. held (get_or l d no_channel)) e ∙ outputs_hold job few t x.channels R.queues cargo d ld f (R.room d ld f);
    others = λ d out. ap (λ l. get_or l d no_channel) e ∙ others_same job few t x.channels R.queues cargo d out;
  }

  -- Algorithm 1, 18 to 21
  received : (x : Run) (t : ℕ) (r : Record) → Ready x t → Received job x (taken_in job x t r) t r
  unfolding taken_in
  received x t r R = record {
    state = get_or-set_same x.live t _ no_totals R.live;
    states = λ u ne. get_or-set_other x.live t u _ no_totals ne;
    sent = sent (Recorded r) x t R _ refl;
    rest = refl;
  }

  -- 10 to 15, with the marks cleared
  passed : (x : Run) (t : ℕ) (ms : List Bool) → Ready x t → x.under_way ≤ 1
      → ((d : ℕ) → d < job.channels → to_of job d ≡ t → flag_at ms d ≡ false)
      → ((d : ℕ) → (d < job.channels → to_of job d ≡ t → ⊥) → flag_at ms d ≡ flag_at x.marked d)
      → Passed job x (stored_by job (with_marked ms x) t) t
  unfolding stored_by
  passed x t ms R one clear same = record {
    cleared = clear;
    marks = same;
    state = (
      get_or-set_same x.half t _ no_totals R.half,
      get_or-set_same x.stored t _ 0 R.stored ∙ ap (λ n. n + 1) (turn_first (count_at x.stored t) x.under_way one),
    );
    states = λ u ne. (get_or-set_other x.half t u _ no_totals ne, get_or-set_other x.stored t u _ 0 ne);
    sent = sent Barrier x t R _ refl;
    rest = refl;
  }

  sealed_by : (y : Run) → Sealed job y (completed job y)
  unfolding completed all_stored
  sealed_by y = record {
    all = λ a. ap (λ b. cond b (answered 20 (sealed y)) (answered 0 y))
        (and_of (ltb 0 y.under_way) (all_stored job y.stored) (lt-ltb 0 y.under_way a.0)
        (all_every (λ t. ltb 0 (count_at y.stored t)) job.tasks (λ t l. lt-ltb 0 (count_at y.stored t) (a.1 t l))));
    not_all = λ n. ap (λ b. cond b (answered 20 (sealed y)) (answered 0 y))
        (fails (ltb 0 y.under_way && all_stored job y.stored)
        (λ e.
        let p = both_true (ltb 0 y.under_way) (all_stored job y.stored) e in (
          ltb-true 0 y.under_way p.0,
          λ t l.
              ltb-true 0 (count_at y.stored t) (every_all (λ t. ltb 0 (count_at y.stored t)) job.tasks p.1 t l),
        )) n);
  }

module _ (job : Job) (c v : List ℤ) (J : JobFits job (length c)) (run : Run) (F : Fits job run) (S : Sized run) where
  few : job.channels ≤ 32
  few = J.sends.sized.few_channels

  tasks_few : (t : ℕ) → t < job.tasks → t < 16
  tasks_few t l = omega (arith, J.sends.sized.few_tasks)

  -- an output of a task without a full one has room
  has_room : (t : ℕ) → (Full job run t → ⊥) → (d : ℕ) → d < job.channels → from_of job d ≡ t → (channel_at run d).count < 8
  has_room t n d l e =
      let ne : (channel_at run d).count ≡ 8 → ⊥ = λ q. n (d, l, e, q) in omega (arith, (F.channels d (omega (arith, few))).room)

  ready : (t : ℕ) → t < job.tasks → (Full job run t → ⊥) → Ready job few run t
  ready t l n = record {
    queues = record { long = S.channels; places = S.items };
    live = omega (arith, tasks_few t l, S.live);
    half = omega (arith, tasks_few t l, S.half);
    stored = omega (arith, tasks_few t l, S.stored);
    room = has_room t n;
  }

  module _ (n : ℕ) (o : Open job run n) (cargo : Cargo) (hd : Head run n cargo) where
    ln : n < 32
    ln = omega (arith, few, o.0)

    abbrev ch : Channel
    ch = channel_at run n

    abbrev x : Run
    x = with_channels (popped run.channels n) run

    more : 0 < ch.count
    more = head_count job J.sends.sized run F S n o cargo hd

    at_n : channel_at x n ≡ (without_head ch).channel
    at_n = get_or-set_same run.channels n (without_head ch).channel no_channel (omega (arith, S.channels))

    at_other : (d : ℕ) → (d ≡ n → ⊥) → channel_at x d ≡ channel_at run d
    at_other d ne = get_or-set_other run.channels n d (without_head ch).channel no_channel ne

    taken : HeadTaken job run x n cargo
    taken = record {
      head = taken_rest job J.sends.sized run F S n o more
          ∙ ap (λ k. record { cargo = k } ∷ held (without_head ch).channel) (head_is job J.sends.sized run F S n o cargo hd)
          ∙ ap (λ q. record { cargo = cargo } ∷ held q) (sym at_n);
      others = at_other;
      rest = refl;
    }

    to : to_of job n < job.tasks
    to = J.sends.sized.to_task n o.0

    x_ready : (Full job run (to_of job n) → ⊥) → Ready job few x (to_of job n)
    x_ready f =
        let R = ready (to_of job n) to f in
        record {
          queues = rest_wide run.channels n R.queues;
          live = R.live;
          half = R.half;
          stored = R.stored;
          room = λ d l e. omega (arith, R.room d l e, fewer run.channels n d (channel_at run d).count (omega arith));
        }

    at_cargo : stepped job c v run n ≡ with_cargo job run n cargo (without_head ch).channel
    at_cargo = at_delivery job c v run n ln ∙ at_head job J.sends.sized run F S n o cargo hd

  -- a record, lines 18 to 21
  record_done : (n : ℕ) (r : Record) (o : Open job run n) (h : Head run n (Recorded r)) → (Full job run (to_of job n) → ⊥)
      → (totals_at run.live (to_of job n)).count < 1048576
      → stepped job c v run n ≡ answered 0 (taken_in job (x n o (Recorded r) h) (to_of job n) r)
  unfolding record_received
  record_done n r o h f l =
      at_cargo n o (Recorded r) h
      ∙ simp (not_full job J.sends.sized run F S (to_of job n) f, lt-leb 1048576 (totals_at run.live (to_of job n)).count l)

  -- a barrier that does not complete the marks, lines 8 and 9
  barrier_marks : (n : ℕ) (o : Open job run n) (h : Head run n Barrier) → (Completes job run n → ⊥)
      → stepped job c v run n ≡ answered 0 (with_marked (set run.marked n true) (x n o Barrier h))
  unfolding barrier_received
  barrier_marks n o h m = at_cargo n o Barrier h ∙ simp (not_completing job J.sends.sized run F S n o.0 m)

  -- one that does, lines 10 to 15
  barrier_passes : (n : ℕ) (o : Open job run n) (h : Head run n Barrier) → Completes job run n → (Full job run (to_of job n) → ⊥)
      → stepped job c v run n
      ≡ completed job (stored_by job (with_marked (unmarked job (set run.marked n true) (to_of job n)) (x n o Barrier h)) (to_of job n))
  unfolding barrier_received
  barrier_passes n o h m f =
      at_cargo n o Barrier h
      ∙ simp (is_completing job J.sends.sized run F S n o.0 m, not_full job J.sends.sized run F S (to_of job n) f)

  -- the marks after it
  module _ (n : ℕ) (l : n < job.channels) where
    abbrev ms : List Bool
    ms = set run.marked n true

    long : job.channels ≤ length ms
    long = omega (arith, length-set run.marked n true, S.marked, few)

    below_mark : (d : ℕ) → d < job.channels → flag_at (unmarked job ms (to_of job n)) d ≡ flag_at ms d && not (is_input job (to_of job n) d)
    unfolding unmarked
    below_mark d ld = place_at false (λ c mark. mark && not (is_input job (to_of job n) c)) ms job.channels d ld long

    and_no : (b : Bool) → b && false ≡ false
    and_no true = refl
    and_no false = refl

    and_yes : (b : Bool) → b && true ≡ b
    and_yes true = refl
    and_yes false = refl

    cleared : (d : ℕ) → d < job.channels → to_of job d ≡ to_of job n → flag_at (unmarked job ms (to_of job n)) d ≡ false
    cleared d ld e =
        below_mark d ld ∙ ap (λ b. flag_at ms d && not b) (eq-eqb (to_of job d) (to_of job n) e) ∙ and_no (flag_at ms d)

    kept : (d : ℕ) → (d < job.channels → to_of job d ≡ to_of job n → ⊥) → flag_at (unmarked job ms (to_of job n)) d ≡ flag_at run.marked d
    unfolding unmarked
    kept d out = go (ltb d job.channels) refl ∙ get_or-set_other run.marked n d true false (λ e. out (omega arith) (ap (to_of job) e))
      where
        go : (b : Bool) → ltb d job.channels ≡ b → flag_at (unmarked job ms (to_of job n)) d ≡ flag_at ms d
        go true e =
            let ld = ltb-true d job.channels e in
            below_mark d ld
            ∙ ap (λ b. flag_at ms d && not b) (fails (is_input job (to_of job n) d) (eqb-true (to_of job d) (to_of job n)) (out ld))
            ∙ and_yes (flag_at ms d)
        go false e =
            place_past false (λ c mark. mark && not (is_input job (to_of job n) c)) ms job.channels d (ltb-false d job.channels e)

  -- ---- sources
  read_done : (t : ℕ) → Source job t → offset_of run t < nat_abs (b_of job t) → (Full job run t → ⊥)
      → stepped job c v run (32 + t) ≡ answered 0 (taken_in job run t (next_record job c v run t))
  unfolding source_read
  read_done t s l f =
      at_read job c v run t (tasks_few t s.0)
      ∙ simp (
        is_source_lem job J.sends.sized run F S t s,
        lt-leb (nat_abs (b_of job t)) (offset_of run t) l,
        not_full job J.sends.sized run F S t f,
      )

  send_done : (t : ℕ) → Source job t → 0 < count_at run.waiting t → (Full job run t → ⊥)
      → stepped job c v run (48 + t)
      ≡ completed job (stored_by job (with_waiting (set run.waiting t (count_at run.waiting t - 1)) run) t)
  unfolding barrier_sent
  send_done t s w f =
      at_send job c v run t (tasks_few t s.0)
      ∙ simp (
        is_source_lem job J.sends.sized run F S t s,
        ne_eqb (count_at run.waiting t) 0 (omega arith),
        not_full job J.sends.sized run F S t f,
      )

  wait_at_lem : run.under_way ≡ 0 → (t : ℕ) → Source job t → count_at (sources_wait job run.under_way run.waiting) t ≡ 1
  unfolding sources_wait
  wait_at_lem none t s =
      place_at 0 (λ t waits. one_more_waits run.under_way (is_source job t) waits) run.waiting job.tasks t s.0
      (omega (arith, S.waiting, J.sends.sized.few_tasks))
      ∙ ap (λ b. one_more_waits run.under_way b (count_at run.waiting t)) s.1
      ∙ omega (arith, none, at_most run.under_way (count_at run.waiting t))

-- 7. DEMAND 2: "A delivered record updates the totals, then is sent by the kind's rule. A delivered barrier marks its channel; .. When all
-- inputs of the task are marked, the same step clears these marks, stores the task's totals in the half-taken snapshot, and puts a barrier on
-- every output. A source does so when it sends its waiting barrier." Accepted exactly when the rules hold is `check` of demand 1.
pub demand_2 : (J : Columns) (run : Run) → Sized run → entry J run ≡ 0 → Demand2 J run
unfolding begun cut_off step_on steps_on
demand_2 J run S z =
    let A = admitted J run z in
    let job = job_of J in
    let c = J.cylinders in
    let v = J.values in
    let JF = A.job_fits in
    let F = A.run_fits in
    let few' = few job c v JF run F S in
    let on : OnStep J = λ x Fx n. simp (eq-eqb (entry J x) 0 (entry_fits J x A.accepted Fx)) in
    record {
      receive_record = λ n r o h f l.
          let e = on run F n ∙ record_done job c v JF run F S n r o h f l in (
            ap (λ (s : Stepped). s.answer) e,
            x job c v JF run F S n o (Recorded r) h,
            taken job c v JF run F S n o (Recorded r) h,
            subst (λ (s : Stepped). Received job (x job c v JF run F S n o (Recorded r) h) s.run (to_of job n) r) (sym e)
                (received job few' _ (to_of job n) r (x_ready job c v JF run F S n o (Recorded r) h f)),
          );
      receive_barrier = λ n o h m.
          let e = on run F n ∙ barrier_marks job c v JF run F S n o h m in (
            ap (λ (s : Stepped). s.answer) e,
            x job c v JF run F S n o Barrier h,
            taken job c v JF run F S n o Barrier h,
            subst (λ (s : Stepped). Marked job (x job c v JF run F S n o Barrier h) s.run n) (sym e) record {
              mark = get_or-set_same run.marked n true false (omega (arith, S.marked, few', o.0));
              marks = λ d ne. get_or-set_other run.marked n d true false ne;
              rest = refl;
            },
          );
      pass_barrier = λ n o h m f.
          let e = on run F n ∙ barrier_passes job c v JF run F S n o h m f in (
            x job c v JF run F S n o Barrier h,
            _,
            taken job c v JF run F S n o Barrier h,
            passed job few' _ (to_of job n) _ (x_ready job c v JF run F S n o Barrier h f) F.few
                (cleared job c v JF run F S n o.0) (kept job c v JF run F S n o.0),
            subst (Sealed job _) (sym e) (sealed_by job few' _),
          );
      read = λ t s l f.
          let e = on run F (32 + t) ∙ read_done job c v JF run F S t s l f in (
            ap (λ (s : Stepped). s.answer) e,
            subst (λ (y : Stepped). Received job run y.run t (next_record job c v run t)) (sym e)
                (received job few' run t (next_record job c v run t) (ready job c v JF run F S t s.0 f)),
          );
      send_barrier = λ t s w f.
          let e = on run F (48 + t) ∙ send_done job c v JF run F S t s w f in
          let R = ready job c v JF run F S t s.0 f in (
            _,
            passed job few' (with_waiting (set run.waiting t (count_at run.waiting t - 1)) run) t run.marked
                (record { queues = R.queues; live = R.live; half = R.half; stored = R.stored; room = R.room }) F.few
                (λ d l q. absurd (true≢false (sym s.1 ∙ ap (is_source job) (sym q) ∙ JF.no_input d l))) (λ d out. refl),
            subst (Sealed job _) (sym e) (sealed_by job few' _),
          );
      begin = λ u. (
        sources_wait job run.under_way run.waiting,
        on run F 64 ∙ at_begin job c v run ∙ simp (lt-leb 1 run.under_way (omega arith)),
        wait_at_lem job c v JF run F S u,
      );
      cut = on run F 65 ∙ at_cut job c v run;
      list = λ ns.
          let e : steps_on J run ns ≡ listed_in J run ns (length ns) = simp (eq-eqb (entry J run) 0 z) in (
            ap (λ (l : Listed). l.run) e ∙ in_order J JF A.records_fit on run F ns,
            ap (λ (l : Listed). l.done) e ∙ done_in_order J JF A.records_fit on run F ns,
          );
    }
