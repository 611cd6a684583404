-- WHAT A POSSIBLE STEP DOES: where one is possible something is left (`possible_left`), and where it brings a record the run after it is
-- the one that the element stores make (`brings`).
use mathlib.Core.Path.{◌≡◌, refl, sym, ap, ◌∙◌, subst}
use mathlib.Core.Bool.{Bool, true, false, cond, not, ◌&&◌, ◌||◌, false≢true}
use mathlib.Core.List.{List}
use Prim.Native.Nat.{ℕ, ◌+◌, ◌-◌, ◌%◌, ◌≤◌, ◌<◌}
use native.Mathlib.Nat.{mod-eq_of_lt}
use native.Mathlib.Omega.{arith}
use lib.Dec.{eqb, ltb, leb}
use lib.IntN.{ℤ, pos, nat_abs}
use lib.ListN.{set, length}
use lib.Signed.{le_z}
use borrow.Author.Tests.{lt-ltb, le-ltb, lt-leb, leb-false, ltb-true, ltb-false, eqb-false, not-true}
use Rattle.tally.specs.declared.Record.{Record}
use Rattle.tally.specs.Totals.{Room}
use Rattle.channel.specs.declared.Cargo.TheVariants.{Barrier, Record as Recorded}
use Rattle.channel.specs.declared.Channel.{Channel}
use Rattle.channel.specs.Channels.{without_head}
use Rattle.job.specs.declared.Job.{Job}
use Rattle.job.specs.Columns.{RecordsFit}
use Rattle.job.specs.Jobs.{kind_of, a_of, b_of, to_of, is_source}
use Rattle.job.specs.Fits.{JobFits}
use Rattle.job.proofs.Bools.{both_true}
use Rattle.job.proofs.Tests.{one_some}
use Rattle.run.specs.declared.Run.{Run}
use Rattle.run.specs.Runs.{no_channel, with_channels}
use Rattle.run.specs.Fit.{channel_at, totals_at, flag_at, count_at, cargo_fits, Fits}
use Rattle.outputs.specs.Outputs.{some_full}
use Rattle.outputs.proofs.Sending.{set_self}
use Rattle.step.specs.declared.Stepped.{Stepped}
use Rattle.step.specs.Algorithm.{answered, taken_in, record_received}
use Rattle.step.specs.Step.{is_no_source, offset_of, next_record, source_read, stepped}
use Rattle.step.proofs.Rooms.{has_room}
use Rattle.step.proofs.Sources.{opened, given}
use Rattle.step.proofs.Lent.{record_fits, inside_part, part_short}
use Rattle.drain.specs.Drains.{task_left, tasks_left, channels_left, some_left, possible}
use Rattle.flat.specs.Columns.{head_of, is_barrier}
use Rattle.drain.specs.Ready.{head_moves, delivers_by, source_of, acts_by, task_by, channel_by}
use Rattle.drain.specs.Sending.{brought_by, left_on}
use Rattle.drain.proofs.Possible.{by_delivery, by_read, delivery_ready_lem, source_ready_lem, Delivers, delivers_says, Acts, acts_says}

or_first : (a b c : Bool) → a ≡ true → a || b || c ≡ true
or_first true b c e = refl
or_first false b c e = absurd (false≢true e)

or_second : (a b c : Bool) → b ≡ true → a || b || c ≡ true
or_second true b c e = refl
or_second false true c e = refl
or_second false false c e = absurd (false≢true e)

left_is : (source more waits reads : Bool) → source ≡ true → cond reads more waits ≡ true → source && more || waits ≡ true
left_is false more waits reads s e = absurd (false≢true s)
left_is true true waits reads s e = refl
left_is true false true reads s e = refl
left_is true false false true s e = absurd (false≢true e)
left_is true false false false s e = absurd (false≢true e)

record_done : (job : Job) (run : Run) (t c : ℕ) (r : Record) (rest : Channel) → some_full job run.channels t ≡ false
    → leb 1048576 (totals_at run.live t).count ≡ false
    → record_received job run t c r rest ≡ answered 0 (taken_in job (with_channels (set run.channels c rest) run) t r)
unfolding record_received
record_done job run t c r rest f m = simp (f, m)

read_done : (job : Job) (cs vs : List ℤ) (run : Run) (t : ℕ) → is_no_source job t ≡ false → leb (nat_abs (b_of job t)) (offset_of run t) ≡
    false
    → some_full job run.channels t ≡ false → source_read job cs vs run t ≡ answered 0 (taken_in job run t (next_record job cs vs run t))
unfolding source_read
read_done job cs vs run t s b f = simp (s, b, f)

is_a_source : (job : Job) (t : ℕ) → t < job.tasks → is_source job t ≡ true → is_no_source job t ≡ false
unfolding is_no_source
is_a_source job t l s = simp (lt-leb job.tasks t l, s)

-- a channel that holds something gives its head
head_taken : (ch : Channel) → ch.count ≤ 8 → eqb ch.count 0 ≡ false
    → ((without_head ch).answer ≡ 0) × ((without_head ch).item.cargo ≡ head_of ch)
unfolding without_head
head_taken ch room held = (simp (le-ltb 8 ch.count room, held), simp (le-ltb 8 ch.count room, held))

pub record Brings (job : Job) (cs vs : List ℤ) (run : Run) (n : ℕ) (got : Record) : Type 0 where
  pub room : Room (totals_at run.live (task_by job.to n))
  pub fits : cargo_fits (Recorded got) ≡ true
  pub after : (stepped job cs vs run n).run
      ≡ taken_in job (with_channels (set run.channels (channel_by n) (left_on n (channel_at run (channel_by n)))) run) (task_by job.to n)
      got

module _ (job : Job) (cs vs : List ℤ) (run : Run) (n : ℕ) (J : JobFits job (length cs)) (F : Fits job run)
    (p : possible job cs vs run n ≡ true) where
  pub delivers : n < 32 → Delivers job.channels n (channel_at run n).count (flag_at run.marked n)
      (head_moves job.to run.marked job.channels n (is_barrier (head_of (channel_at run n))) (some_full job run.channels (to_of
      job n))
      (totals_at run.live (to_of job n)).count)
  unfolding delivers_by
  delivers l = delivers_says _ _ _ _ _ (sym (delivery_ready_lem job run cs vs n l (F.channels n l).room) ∙ p)

  pub acts : 32 ≤ n → n < 64
      → Acts (ltb (source_of n) job.tasks) (eqb (kind_of job (source_of n)) 0) (some_full job run.channels (source_of n))
      (cond (ltb n 48) (ltb (offset_of run (source_of n)) (nat_abs (b_of job (source_of n)))) (ltb 0 (count_at run.waiting (source_of n))))
  unfolding acts_by
  acts low high = acts_says _ _ _ _ (sym (source_ready_lem job run cs vs n low high) ∙ p)

  -- the channel's to_task is one of the job's, so below 16
  to_same : n < 32 → to_of job n % 16 ≡ to_of job n
  to_same l =
      let S = J.sends.sized in
      mod-eq_of_lt (omega (arith, S.to_task n (leb-false job.channels n (delivers l).there), S.few_tasks))

  pub possible_left : n < 64 → some_left job run ≡ true
  unfolding some_left tasks_left channels_left
  possible_left h = go (ltb n 32) refl
    where
      go : (b : Bool) → ltb n 32 ≡ b → some_left job run ≡ true
      go true e =
          let d = delivers (ltb-true n 32 e) in
          or_second (tasks_left job run) (channels_left job run) (ltb 0 run.under_way)
          (one_some (λ c. not (eqb (channel_at run c).count 0)) job.channels n (leb-false job.channels n d.there)
          (ap not d.held))
      go false e =
          let a = acts (ltb-false n 32 e) h in
          let t = source_of n in
          or_first (tasks_left job run) (channels_left job run) (ltb 0 run.under_way)
          (one_some (task_left job run) job.tasks t (ltb-true t job.tasks a.is_there)
          (left_is (is_source job t) (ltb (offset_of run t) (nat_abs (b_of job t))) (ltb 0 (count_at run.waiting t)) (ltb n 48) a.is_source_lem
          a.acts))

  -- a read: the source's next record lies within the lent ones
  reads_at : 32 ≤ n → n < 48 → (n - 32 < job.tasks) × (is_source job (n - 32) ≡ true) × (some_full job run.channels (n - 32) ≡ false)
      × (offset_of run (n - 32) < nat_abs (b_of job (n - 32)))
  reads_at low high =
      let t : n % 16 ≡ n - 32 = omega arith in
      let a = simp (lt-ltb n 48 high, t) at (acts low (omega arith)) in
      (ltb-true _ _ a.is_there, a.is_source_lem, a.room, ltb-true _ _ a.acts)

  pub brought_inside : n < 64 → ltb n 32 ≡ false → ltb n 48 ≡ true
      → (le_z (pos 0) (a_of job (task_by job.to n)) ≡ true)
      × (nat_abs (a_of job (task_by job.to n)) + offset_of run (task_by job.to n) < length cs)
  brought_inside h e f =
      let s = reads_at (ltb-false n 32 e) (ltb-true n 48 f) in
      let t : n % 16 ≡ n - 32 = omega (arith, ltb-false n 32 e, ltb-true n 48 f) in
      let at = inside_part job (length cs) (n - 32) (offset_of run (n - 32)) J s.0 s.1 s.3 in
      simp (e, t) ((J.parts (n - 32) s.0 s.1).start, at)

  -- a delivery of a record
  delivered_brings : (l : n < 32) (got : Record) → head_of (channel_at run n) ≡ Recorded got
      → Room (totals_at run.live (to_of job n)) × (cargo_fits (Recorded got) ≡ true)
      × ((stepped job cs vs run n).run
      ≡ taken_in job (with_channels (set run.channels n (without_head (channel_at run n)).channel) run) (to_of job n) got)
  delivered_brings l got e =
      let d = delivers l in
      let ch = channel_at run n in
      let t = to_of job n in
      let lc : n < job.channels = leb-false job.channels n d.there in
      let lt = J.sends.sized.to_task n lc in
      let g = both_true (not (some_full job run.channels t)) (ltb (totals_at run.live t).count 1048576) (simp e at d.goes) in
      let few = ltb-true (totals_at run.live t).count 1048576 g.1 in
      let w = head_taken ch (F.channels n l).room d.held in
      let some : 0 < ch.count = let ne : ch.count ≡ 0 → ⊥ = eqb-false ch.count 0 d.held in omega arith in
      let room = not-true (some_full job run.channels t) g.0 in (
        has_room job t (totals_at run.live t) (F.totals t lt).live few,
        subst (λ x. cargo_fits x ≡ true) e ((F.channels n l).cylinders 0 some),
        ap (λ (s : Stepped). s.run)
            (by_delivery job cs vs run n l
            ∙ sym (opened job run n (without_head ch) lc d.unmarked refl)
            ∙ sym (given job run n (without_head ch) (Recorded got) w.0 (w.1 ∙ e))
            ∙ record_done job run t n got (without_head ch).channel room (lt-leb 1048576 _ few)),
      )

  -- a source's read
  read_brings : (low : 32 ≤ n) (high : n < 48) → RecordsFit cs vs → (let t = n - 32 in
      Room (totals_at run.live t) × (cargo_fits (Recorded (next_record job cs vs run t)) ≡ true)
      × ((stepped job cs vs run n).run ≡ taken_in job run t (next_record job cs vs run t)))
  unfolding next_record
  read_brings low high R =
      let t = n - 32 in
      let s = reads_at low high in
      let few = part_short job (length cs) t J s.0 s.1 in
      let at = inside_part job (length cs) t (offset_of run t) J s.0 s.1 s.3 in (
        has_room job t (totals_at run.live t) (F.totals t s.0).live (omega (arith, s.3, few)),
        record_fits cs vs (nat_abs (a_of job t) + offset_of run t) R at,
        ap (λ (x : Stepped). x.run)
            (by_read job cs vs run n low high
            ∙ read_done job cs vs run t (is_a_source job t s.0 s.1) (lt-leb (nat_abs (b_of job t)) (offset_of run t) s.3) s.2),
      )

  pub brings : RecordsFit cs vs → (got : Record)
      → brought_by cs vs n (head_of (channel_at run (channel_by n))) (a_of job (task_by job.to n)) (offset_of run (task_by job.to n))
      ≡ Recorded got
      → Brings job cs vs run n got
  unfolding brought_by left_on next_record
  brings R got e = go (ltb n 32) refl (ltb n 48) refl
    where
      go : (a : Bool) → ltb n 32 ≡ a → (b : Bool) → ltb n 48 ≡ b → Brings job cs vs run n got
      go true p b q =
          let l = ltb-true n 32 p in
          let x = delivered_brings l got (simp p at e) in
          record { room = simp (p, to_same l) x.0; fits = x.1; after = simp (p, to_same l) x.2 }
      go false p true q =
          let x = read_brings (ltb-false n 32 p) (ltb-true n 48 q) R in
          let t : n % 16 ≡ n - 32 = omega (arith, ltb-false n 32 p, ltb-true n 48 q) in
          let y : Recorded (next_record job cs vs run (n - 32)) ≡ Recorded got = simp (p, q, t) at e in
          let z : next_record job cs vs run (n - 32) ≡ got = cc in
          record {
            room = simp (p, t) x.0;
            fits = subst (λ r. cargo_fits (Recorded r) ≡ true) z x.1;
            after = simp (p, t) (x.2 ∙ ap (taken_in job run (n - 32)) z
                ∙ ap (λ (h : List Channel). taken_in job (with_channels h run) (n - 32) got) (sym (set_self run.channels 0 no_channel)));
          }
      go false p false q = let y : Barrier ≡ Recorded got = simp (p, q) at e in let z : ◌≡◌ {A = ℕ} 0 1 = cc in absurd (omega arith)
