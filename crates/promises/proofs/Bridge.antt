-- THE STEP, read, is the step of `laws` (`step_read`), for a run that fits, is sized and whose reading is in `Order`.
use mathlib.Core.Path.{◌≡◌, refl, sym, ap, ap₂, ◌∙◌}
use mathlib.Core.Bool.{Bool, true, false, cond, not, ◌||◌, true≢false}
use mathlib.Core.List.{List, [], ◌∷◌}
use Prim.Native.Nat.{ℕ, ◌+◌, ◌-◌, ◌<◌, ◌≤◌}
use native.Mathlib.Omega.{arith}
use borrow.Author.Tests.{eqb-true, eq-eqb, ne_eqb, ltb-true, ltb-false, leb-true, leb-false}
use lib.Dec.{eqb, ltb, leb}
use lib.IntN.{ℤ, nat_abs}
use lib.ListN.{length, set, take, drop, length-set}
use Rattle.laws.specs.Below.{bit, tab}
use Rattle.laws.specs.Totals.{tot_mon}
use Rattle.laws.specs.Items.{Item}
use Rattle.laws.specs.Run.{Job as LawJob, Run as LawRun, read_s, deliver_s, mark_s, store_s, begin_s, cut_s}
use Rattle.laws.specs.Invariant.{Order}
use Rattle.laws.specs.Step.{Out, done, refused, room_b, marked_b, end_f, bar_f, head_f, deliver_f, next_f, read_f, send_f, step_f}
use Rattle.laws.proofs.Below.{cond_same}
use Rattle.laws.proofs.Moves.{bar_more}
use Rattle.tally.specs.declared.Record.{Record}
use Rattle.channel.specs.declared.Cargo.{Cargo}
use Rattle.channel.specs.declared.Cargo.TheVariants.{Barrier, Record as Recorded}
use Rattle.channel.specs.declared.Channel.{Channel}
use Rattle.channel.specs.Channels.{held, without_head}
use Rattle.channel.proofs.Queues.{taken_0, taken_13}
use Rattle.job.specs.declared.Job.{Job}
use Rattle.job.specs.Columns.{record_at}
use Rattle.job.specs.Jobs.{a_of, b_of, to_of, is_source, is_input}
use Rattle.job.specs.Fits.{JobFits}
use Rattle.job.proofs.Bools.{both_true}
use Rattle.job.proofs.Tests.{every_all}
use Rattle.run.specs.declared.Run.{Run}
use Rattle.run.specs.Runs.{with_channels, with_marked, with_waiting, without_half, with_under_way}
use Rattle.run.specs.Fit.{channel_at, totals_at, flag_at, count_at, Fits}
use Rattle.outputs.specs.Outputs.{some_full, all_marked, unmarked, sources_wait}
use Rattle.step.specs.declared.Stepped.{Stepped}
use Rattle.step.specs.Algorithm.{answered, completed, stored_by, barrier_received, taken_in, record_received}
use Rattle.step.specs.Step.{with_cargo, with_taken, delivered, offset_of, next_record, source_read, barrier_sent, begun, cut_off, stepped}
use Rattle.step.proofs.Sources.{given}
use Rattle.drain.proofs.Possible.{ltb_not, none_waits}
use Rattle.promises.proofs.Reading.{item_of, items_of, source_of, source_is, part_of, to_at, end_is, end_out}
use Rattle.promises.proofs.Reading.{law_run, gone_at, at_with, at, read_out, read_job, Sized}
use Rattle.promises.proofs.Queued.{popped, rest_wide, fewer}
use Rattle.promises.proofs.Held.{set_at, at_set, head_items, Queues, pop_items}
use Rattle.promises.proofs.Sizes.{wide, with_channels_lem, with_marked_lem, with_waiting_lem, unmarked_long}
use Rattle.promises.proofs.Asked.{tab_more, tab_out, guarded, no_source, over, room_is, marked_is, unmarked_at}
use Rattle.promises.proofs.Asked.{full_eq, mark_far, wait_other, idle, wait_most}
use Rattle.promises.proofs.Moved.{queues, popped_queues, roomy, read_is, quiet, deliver_is, mark_is, marked_gone, stored_read}
use Rattle.promises.proofs.Moved.{begin_is, cut_is}

module _ (job : Job) (cylinders values : List ℤ) (JF : JobFits job (length cylinders)) (run : Run) (F : Fits job run) (S : Sized run)
    (O : Order (read_job job cylinders values JF) (at job run)) where
  abbrev J : LawJob
  J = read_job job cylinders values JF

  abbrev s : LawRun Record tot_mon.Car
  s = at job run

  few : job.channels ≤ 32
  few = JF.sends.sized.few_channels

  Q : Queues run.channels
  Q = queues job run F S

  module _ (d : ℕ) (ld : d < job.channels) (mk : flag_at run.marked d ≡ false)
      (p : 0 < (channel_at run d).count) where
    abbrev rest : Channel
    rest = (without_head (channel_at run d)).channel

    abbrev t : ℕ
    t = to_of job d

    to_is : to_at job d ≡ to_of job d
    to_is = end_is job (to_of job) d ld

    lt : to_of job d < job.tasks
    lt = JF.sends.sized.to_task d ld

    room_to : room_b J s (to_at job d) ≡ not (some_full job run.channels (to_of job d))
    room_to = ap (room_b J s) to_is ∙ room_is job cylinders values JF run Q (to_of job d)

    record_read : (r : Record) (tail : List (Item Record))
        → read_out job (record_received job run (to_of job d) d r rest) ≡ head_f J s d (item_of (Recorded r) ∷ tail)
    unfolding record_received
    record_read r tail =
        go (some_full job run.channels t) refl (leb 1048576 (totals_at run.live t).count)
        ∙ ap₂ (λ x y. cond x (cond y (refused 17) (done (deliver_s J s d r))) (refused 14)) (sym room_to)
        (sym (ap (λ u. eqb (totals_at run.live u).count 1048576) to_is ∙ full_eq _ (F.totals t lt).live.counts))
        ∙ ap (λ b. cond (room_b J s (to_at job d)) (cond (cond b (leb 64 0) false) (refused 33)
        (cond (J.full (s.live (to_at job d))) (refused 17) (done (deliver_s J s d r)))) (refused 14))
        (sym (quiet job cylinders values JF run d 0 d))
      where
        go : (x : Bool) → some_full job run.channels t ≡ x → (y : Bool)
            → read_out job (cond x (answered 14 run) (cond y (answered 17 run)
            (answered 0 (taken_in job (with_channels (popped run.channels d) run) t r))))
            ≡ cond (not x) (cond y (refused 17) (done (deliver_s J s d r))) (refused 14)
        go true e y = refl
        go false e true = refl
        go false e false =
            ap {B = Out (LawRun Record tot_mon.Car)} done (deliver_is job cylinders values JF run d S Q ld p r e)

    abbrev marks : List Bool
    marks = set run.marked d true

    here : d < length run.marked
    here = omega (arith, S.marked, few)

    abbrev stores : Run
    stores = with_marked (unmarked job marks (to_of job d)) (with_channels (popped run.channels d) run)

    stores_sized : Sized stores
    stores_sized =
        with_marked_lem _ (with_channels_lem run S _ (rest_wide run.channels d (wide run S))) _
        (unmarked_long job marks t ∙ length-set run.marked d true ∙ S.marked)

    un_at : (c : ℕ) → flag_at (unmarked job marks (to_of job d)) c ≡ cond (eqb (to_at job c) (to_of job d)) false (flag_at marks c)
    un_at = unmarked_at job marks t (omega (arith, few, length-set run.marked d true, S.marked)) lt

    module _ (tail : List (Item Record)) (hd : s.chan d ≡ item_of Barrier ∷ tail) where
      -- the to_task has not stored all that are under way
      pub on : count_at run.stored (to_of job d) < run.under_way
      on = omega (arith, bar_more J s O d tail ld hd, ap (count_at run.stored) to_is)

      -- every input is marked: those taken from them are one more than what the task had stored, and it stores that one
      gones : all_marked job marks (to_of job d) ≡ true → (c : ℕ)
          → gone_at job (set run.stored (to_of job d) (count_at run.stored (to_of job d) + 1)) (unmarked job marks (to_of job d)) c
          ≡ (mark_s J s d).gone c
      unfolding all_marked
      gones all c =
          ap₂ (λ a b. a + bit b)
          (set_at run.stored t (count_at run.stored t + 1) 0 (omega (arith, S.stored, lt, JF.sends.sized.few_tasks)) (to_at job c))
          (un_at c)
          ∙ go (eqb (to_at job c) t) refl
        where
          was : bit (flag_at marks c) ≡ bit (flag_at run.marked c) + bit (eqb d c)
          was = marked_gone job cylinders values JF run d S Q ld p mk c

          is_marked : to_at job c ≡ to_of job d → flag_at marks c ≡ true
          is_marked q = inside (ltb c job.channels) refl
            where
              inside : (b : Bool) → ltb c job.channels ≡ b → flag_at marks c ≡ true
              inside true e =
                  let lc = ltb-true c job.channels e in
                  ap (λ b. not b || flag_at marks c) (sym (eq-eqb (to_of job c) t (sym (end_is job (to_of job) c lc) ∙ q)))
                  ∙ every_all (λ c. not (is_input job t c) || flag_at marks c) job.channels all c lc
              inside false e = absurd (omega (arith, lt, end_out job (to_of job) c (ltb-false c job.channels e)))

          go : (b : Bool) → eqb (to_at job c) (to_of job d) ≡ b
              → cond b (count_at run.stored (to_of job d) + 1) (count_at run.stored (to_at job c)) + bit (cond b false (flag_at marks c))
              ≡ count_at run.stored (to_at job c) + bit (flag_at run.marked c) + bit (eqb d c)
          go true e =
              let q = eqb-true (to_at job c) t e in
              omega (arith, was, ap bit (is_marked q), ap (count_at run.stored) q)
          go false e = omega (arith, was)

      waits_are : (v : ℕ) → count_at run.waiting v ≡ count_at run.waiting v - bit (eqb v (to_of job d))
      waits_are v = go (eqb v t) refl
        where
          go : (b : Bool) → eqb v (to_of job d) ≡ b → count_at run.waiting v ≡ count_at run.waiting v - bit b
          go true e = omega (arith, ap (count_at run.waiting) (eqb-true v t e), wait_other job run F S t lt (JF.no_input d ld))
          go false e = omega arith

      marked_run : at_with job (mark_s J s d).gone (count_at run.waiting) stores ≡ mark_s J s d
      marked_run = λ i.
          law_run (λ c. pop_items run.channels Q d (omega (arith, few)) p c i) s.live s.off (mark_s J s d).gone s.wait
          s.stored s.half s.half_off s.going s.last s.last_off

      far : (c : ℕ) → job.channels ≤ c → flag_at (unmarked job marks (to_of job d)) c ≡ false
      far c out =
          un_at c
          ∙ ap (λ b. cond (eqb (to_at job c) t) false b)
          (at_set run.marked d true false here c ∙ ap (λ b. cond b true (flag_at run.marked c)) (ne_eqb d c (omega arith))
          ∙ mark_far job run F S c out)
          ∙ cond_same (eqb (to_at job c) t) false

      stores_read : all_marked job marks (to_of job d) ≡ true → some_full job run.channels (to_of job d) ≡ false
          → read_out job (completed job (stored_by job stores (to_of job d))) ≡ end_f J (store_s J (mark_s J s d) (to_at job d))
      stores_read all e =
          stored_read job cylinders values JF stores stores_sized (popped_queues run.channels d Q) t lt
          (λ c lc out. omega (arith, fewer run.channels d c 7 (omega (arith, roomy job run.channels t e c lc out)))) on F.few
          (mark_s J s d).gone (count_at run.waiting) (gones all) waits_are (idle job cylinders values JF run F S O) far
          ∙ ap₂ (λ r u. end_f J (store_s J r u)) marked_run (sym to_is)

      barrier_read : read_out job (barrier_received job run (to_of job d) d rest) ≡ head_f J s d (item_of Barrier ∷ tail)
      unfolding barrier_received
      barrier_read =
          go (all_marked job marks t) refl ∙ ap (bar_f J s d false) (sym (ap (marked_b J (mark_s J s d)) to_is ∙ all_is))
        where
          all_is : marked_b J (mark_s J s d) (to_of job d) ≡ all_marked job marks (to_of job d)
          all_is = marked_is job cylinders values JF run.stored (mark_s J s d).gone marks t (λ c q.
              ap₂ ltb (ap (count_at run.stored) (sym q)) (omega (arith, marked_gone job cylinders values JF run d S Q ld p mk c))
              ∙ over (count_at run.stored (to_at job c)) (flag_at marks c))

          room : all_marked job marks (to_of job d) ≡ true → (x : Bool) → some_full job run.channels t ≡ x
              → read_out job (cond x (answered 14 run) (completed job (stored_by job stores t)))
              ≡ cond (not x) (end_f J (store_s J (mark_s J s d) (to_at job d))) (refused 14)
          room all true q = refl
          room all false q = stores_read all q

          go : (y : Bool) → all_marked job marks (to_of job d) ≡ y
              → read_out job (cond y (cond (some_full job run.channels t) (answered 14 run) (completed job (stored_by job stores t)))
              (answered 0 (with_marked marks (with_channels (popped run.channels d) run))))
              ≡ bar_f J s d false y
          go true e =
              room e (some_full job run.channels t) refl
              ∙ ap (λ b. cond b (end_f J (store_s J (mark_s J s d) (to_at job d))) (refused 14)) (sym room_to)
          go false e =
              ap {B = Out (LawRun Record tot_mon.Car)} done (mark_is job cylinders values JF run d S Q ld p mk)

  cargo_read : (d : ℕ) (ld : d < job.channels) (mk : flag_at run.marked d ≡ false) (p : 0 < (channel_at run d).count) (cargo : Cargo)
      (tail : List (Item Record)) → s.chan d ≡ item_of cargo ∷ tail
      → read_out job (with_cargo job run d cargo (without_head (channel_at run d)).channel) ≡ head_f J s d (item_of cargo ∷ tail)
  cargo_read d ld mk p Barrier tail e = barrier_read d ld mk p tail e
  cargo_read d ld mk p (Recorded r) tail e = record_read d ld mk p r tail

  head_read : (d : ℕ) → d < job.channels → flag_at run.marked d ≡ false
      → read_out job (with_taken job run d (without_head (channel_at run d))) ≡ head_f J s d (s.chan d)
  unfolding with_taken
  head_read d ld mk = go (ltb 0 (channel_at run d).count) refl
    where
      low : d < 32
      low = omega (arith, few)

      go : (b : Bool) → ltb 0 (channel_at run d).count ≡ b
          → read_out job (with_taken job run d (without_head (channel_at run d))) ≡ head_f J s d (s.chan d)
      go true e =
          let p = ltb-true 0 (channel_at run d).count e in
          let got = without_head (channel_at run d) in
          let hd = head_items (channel_at run d) (S.items d low) p (F.channels d low).room in
          ap (read_out job) (sym (given job run d got got.item.cargo (taken_0 (channel_at run d) p (F.channels d low).room) refl))
          ∙ cargo_read d ld mk p got.item.cargo (items_of (held got.channel)) hd ∙ ap (head_f J s d) (sym hd)
      go false e =
          let z : (channel_at run d).count ≡ 0 = omega (arith, ltb-false 0 (channel_at run d).count e) in
          ap (λ got. read_out job (with_taken job run d got)) (taken_13 (channel_at run d) z)
          ∙ ap (λ n. head_f J s d (items_of (take n (channel_at run d).items))) (sym z)

  -- 0 TO 31
  pub channel_read : (d : ℕ) → read_out job (delivered job run d) ≡ deliver_f J s d
  unfolding delivered
  channel_read d =
      go (leb job.channels d) refl (flag_at run.marked d) refl
      ∙ ap₂ (λ b x. cond b (cond x (refused 12) (head_f J s d (s.chan d))) (refused 11)) (sym (ltb_not d job.channels))
      (sym (over (count_at run.stored (to_at job d)) (flag_at run.marked d)))
    where
      go : (x : Bool) → leb job.channels d ≡ x → (y : Bool) → flag_at run.marked d ≡ y
          → read_out job (cond x (answered 11 run) (cond y (answered 12 run) (with_taken job run d (without_head (channel_at run d)))))
          ≡ cond (not x) (cond y (refused 12) (head_f J s d (s.chan d))) (refused 11)
      go true e y q = refl
      go false e true q = refl
      go false e false q = head_read d (leb-false job.channels d e) q

  module _ (t : ℕ) (src : source_of job t ≡ true) where
    pub src_lt : t < job.tasks
    src_lt = ltb-true t job.tasks (both_true (ltb t job.tasks) (is_source job t) src).0

    abbrev next : ℕ → Record
    next i = record_at cylinders values (nat_abs (a_of job t) + i)

    part_is : drop (s.off t) (part_of job cylinders values t) ≡ drop (offset_of run t) (tab (nat_abs (b_of job t)) next)
    part_is = ap (λ b. drop (cond b (offset_of run t) 0) (cond b (tab (nat_abs (b_of job t)) next) [])) src

    next_read : (x : Bool) → leb (nat_abs (b_of job t)) (offset_of run t) ≡ x
        → read_out job (cond x (answered 13 run) (cond (some_full job run.channels t) (answered 14 run)
        (answered 0 (taken_in job run t (next_record job cylinders values run t)))))
        ≡ next_f J s t (drop (offset_of run t) (tab (nat_abs (b_of job t)) next))
    unfolding next_record
    next_read true e =
        ap (next_f J s t) (sym (tab_out (nat_abs (b_of job t)) (offset_of run t) next (leb-true (nat_abs (b_of job t)) (offset_of run t) e)))
    next_read false e =
        go (some_full job run.channels t) refl
        ∙ ap (λ b. cond b (done (read_s J s t (next (offset_of run t)))) (refused 14)) (sym (room_is job cylinders values JF run Q t))
        ∙ ap (next_f J s t) (sym (tab_more (nat_abs (b_of job t)) (offset_of run t) next (leb-false (nat_abs (b_of job t)) (offset_of run t) e)))
      where
        go : (y : Bool) → some_full job run.channels t ≡ y
            → read_out job (cond y (answered 14 run) (answered 0 (taken_in job run t (next (offset_of run t)))))
            ≡ cond (not y) (done (read_s J s t (next (offset_of run t)))) (refused 14)
        go true e = refl
        go false e =
            ap {B = Out (LawRun Record tot_mon.Car)} done (read_is job cylinders values JF run t (next (offset_of run t)) S Q src_lt src e)

    -- a source has no input
    no_inputs : (c : ℕ) → to_at job c ≡ t → ⊥
    no_inputs c q = other (ltb c job.channels) refl
      where
        other : (b : Bool) → ltb c job.channels ≡ b → ⊥
        other true e =
            let lc = ltb-true c job.channels e in
            true≢false (sym src ∙ source_is job t src_lt ∙ ap (is_source job) (sym q ∙ end_is job (to_of job) c lc) ∙ JF.no_input c lc)
        other false e = omega (arith, src_lt, end_out job (to_of job) c (ltb-false c job.channels e))

    abbrev sends_run : Run
    sends_run = with_waiting (set run.waiting t (count_at run.waiting t - 1)) run

    sends_sized : Sized sends_run
    sends_sized = with_waiting_lem run S _ (length-set run.waiting t _ ∙ S.waiting)

    src_gones : (c : ℕ) → gone_at job (set run.stored t (count_at run.stored t + 1)) run.marked c ≡ s.gone c
    src_gones c =
        ap (λ x. x + bit (flag_at run.marked c))
        (set_at run.stored t (count_at run.stored t + 1) 0 (omega (arith, S.stored, src_lt, JF.sends.sized.few_tasks)) (to_at job c)
        ∙ ap (λ b. cond b (count_at run.stored t + 1) (count_at run.stored (to_at job c))) (ne_eqb (to_at job c) t (no_inputs c)))

    src_waits : (v : ℕ) → count_at sends_run.waiting v ≡ count_at run.waiting v - bit (eqb v t)
    src_waits v =
        set_at run.waiting t (count_at run.waiting t - 1) 0 (omega (arith, S.waiting, src_lt, JF.sends.sized.few_tasks)) v
        ∙ go (eqb v t) refl
      where
        go : (b : Bool) → eqb v t ≡ b → cond b (count_at run.waiting t - 1) (count_at run.waiting v) ≡ count_at run.waiting v - bit b
        go true e = ap (λ u. count_at run.waiting u - 1) (sym (eqb-true v t e))
        go false e = omega arith

    sent_read : 0 < count_at run.waiting t → some_full job run.channels t ≡ false
        → read_out job (completed job (stored_by job sends_run t)) ≡ end_f J (store_s J s t)
    sent_read w e =
        stored_read job cylinders values JF sends_run sends_sized Q t src_lt (roomy job run.channels t e)
        (omega (arith, O.wait_eq t src_lt src)) F.few s.gone (count_at run.waiting) src_gones src_waits
        (idle job cylinders values JF run F S O) (mark_far job run F S)

  -- 32 TO 47
  pub source_read_lem : (t : ℕ) → read_out job (source_read job cylinders values run t) ≡ read_f J s t
  unfolding source_read
  source_read_lem t =
      ap (λ b. read_out job (cond b (answered 11 run) reads)) (no_source job t) ∙ go (source_of job t) refl
      ∙ guarded (ltb t job.tasks) (is_source job t) (next_f J s t (drop (s.off t) (part_of job cylinders values t))) (refused 11)
    where
      reads : Stepped
      reads =
          cond (leb (nat_abs (b_of job t)) (offset_of run t)) (answered 13 run)
          (cond (some_full job run.channels t) (answered 14 run)
          (answered 0 (taken_in job run t (next_record job cylinders values run t))))

      go : (x : Bool) → source_of job t ≡ x
          → read_out job (cond (not x) (answered 11 run) reads)
          ≡ cond x (next_f J s t (drop (s.off t) (part_of job cylinders values t))) (refused 11)
      go true e = next_read t e (leb (nat_abs (b_of job t)) (offset_of run t)) refl ∙ ap (next_f J s t) (sym (part_is t e))
      go false e = refl

  -- 48 TO 63
  pub send_read : (t : ℕ) → read_out job (barrier_sent job run t) ≡ send_f J s t
  unfolding barrier_sent
  send_read t =
      ap₂ (λ b w. read_out job (cond b (answered 11 run) (cond w (answered 13 run) (cond (some_full job run.channels t) (answered 14 run)
      (completed job (stored_by job (with_waiting (set run.waiting t (count_at run.waiting t - 1)) run) t))))))
      (no_source job t) (none_waits (count_at run.waiting t))
      ∙ go (source_of job t) refl (ltb 0 (count_at run.waiting t)) refl (some_full job run.channels t) refl
      ∙ ap (λ b. cond (source_of job t) (sent b) (refused 11)) (sym (room_is job cylinders values JF run Q t))
      ∙ guarded (ltb t job.tasks) (is_source job t) (sent (room_b J s t)) (refused 11)
    where
      sent : Bool → Out (LawRun Record tot_mon.Car)
      sent b = cond (ltb 0 (count_at run.waiting t)) (cond b (end_f J (store_s J s t)) (refused 14)) (refused 13)

      go : (x : Bool) → source_of job t ≡ x → (w : Bool) → ltb 0 (count_at run.waiting t) ≡ w
          → (y : Bool) → some_full job run.channels t ≡ y
          → read_out job (cond (not x) (answered 11 run) (cond (not w) (answered 13 run) (cond y (answered 14 run)
          (completed job (stored_by job (with_waiting (set run.waiting t (count_at run.waiting t - 1)) run) t)))))
          ≡ cond x (cond w (cond (not y) (end_f J (store_s J s t)) (refused 14)) (refused 13)) (refused 11)
      go true e true q true f = refl
      go true e true q false f = sent_read t e (ltb-true 0 (count_at run.waiting t) q) f
      go true e false q y f = refl
      go false e w q y f = refl

  -- 64
  begin_read : read_out job (begun job run) ≡ cond (ltb run.under_way 1) (done (begin_s J s)) (refused 15)
  unfolding begun
  begin_read = go (leb 1 run.under_way) refl
      ∙ ap (λ b. cond b (done (begin_s J s)) (refused 15)) (sym (ltb_not run.under_way 1))
    where
      go : (b : Bool) → leb 1 run.under_way ≡ b
          → read_out job (cond b (answered 15 run)
          (answered 0 (with_under_way 1 (without_half (with_waiting (sources_wait job run.under_way run.waiting) run)))))
          ≡ cond (not b) (done (begin_s J s)) (refused 15)
      go true e = refl
      go false e =
          ap {B = Out (LawRun Record tot_mon.Car)} done
          (begin_is job cylinders values JF run S (leb-false 1 run.under_way e) (idle job cylinders values JF run F S O)
          (wait_most job cylinders values JF run F S O))

  late_read : (a b : Bool) → read_out job (cond a (begun job run) (cond b (answered 0 (cut_off run)) (answered 11 run)))
      ≡ cond a (cond (ltb run.under_way 1) (done (begin_s J s)) (refused 15)) (cond b (done (cut_s J s)) (refused 11))
  late_read true b = begin_read
  late_read false true = ap {B = Out (LawRun Record tot_mon.Car)} done (cut_is job cylinders values JF run)
  late_read false false = refl

  chosen : (a b c : Bool) (x y z w : Stepped) (x' y' z' w' : Out (LawRun Record tot_mon.Car)) → read_out job x ≡ x' → read_out job y ≡ y'
      → read_out job z ≡ z' → read_out job w ≡ w' → read_out job (cond a x (cond b y (cond c z w))) ≡ cond a x' (cond b y' (cond c z' w'))
  chosen true b c x y z w x' y' z' w' p q r t = p
  chosen false true c x y z w x' y' z' w' p q r t = q
  chosen false false true x y z w x' y' z' w' p q r t = r
  chosen false false false x y z w x' y' z' w' p q r t = t

  -- THE STEP, read, is the step of `laws`
  pub step_read : (k : ℕ) → read_out job (stepped job cylinders values run k) ≡ step_f J s k
  unfolding stepped
  step_read k = chosen (ltb k 32) (ltb k 48) (ltb k 64) _ _ _ _ _ _ _ _
      (channel_read k) (source_read_lem (k - 32)) (send_read (k - 48)) (late_read (eqb k 64) (eqb k 65))
