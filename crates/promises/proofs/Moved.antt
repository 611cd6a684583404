-- The parts of a step, read, are the parts of the same names in `laws`.
use mathlib.Core.Path.{◌≡◌, refl, sym, ap, ap₂, ◌∙◌}
use mathlib.Core.Bool.{Bool, true, false, cond, ◌&&◌}
use mathlib.Core.List.{List, [], ◌∷◌, ◌++◌}
use Prim.Native.Nat.{ℕ, suc, ◌+◌, ◌-◌, ◌<◌, ◌≤◌}
use native.Mathlib.Omega.{arith}
use borrow.Author.Tests.{eqb-true, ne_eqb, ltb-true, ltb-false, lt-ltb, le-ltb, leb-false}
use lib.Dec.{eqb, ltb}
use lib.IntN.{ℤ}
use lib.ListN.{length, get_or, set, replicate}
use Rattle.laws.specs.Received.{keep}
use Rattle.laws.specs.Below.{bit, all_n}
use Rattle.laws.specs.Sums.{pick}
use Rattle.laws.specs.Totals.{tot_mon, one_total}
use Rattle.laws.specs.Run.{Job as LawJob, Run as LawRun, put, pop, logs, read_s, deliver_s, mark_s, store_s, begin_s, finish_s, cut_s}
use Rattle.laws.specs.Step.{Out, done, ended, end_f}
use Rattle.laws.proofs.Below.{cond_same, all_true, all_yes}
use Rattle.tally.specs.declared.Record.{Record}
use Rattle.tally.specs.declared.Totals.{Totals}
use Rattle.tally.specs.Totals.{no_totals, with_value}
use Rattle.tally.proofs.Fold.{encode}
use Rattle.channel.specs.declared.Cargo.TheVariants.{Barrier, Record as Recorded}
use Rattle.channel.specs.declared.Channel.{Channel}
use Rattle.channel.specs.Channels.{empty_channel, held}
use Rattle.job.specs.declared.Job.{Job}
use Rattle.job.specs.Jobs.{from_of, to_of, is_source, is_output}
use Rattle.job.specs.Fits.{JobFits}
use Rattle.job.proofs.Tests.{some_none}
use Rattle.run.specs.declared.Run.{Run}
use Rattle.run.specs.Runs.{no_channel, with_channels, with_marked, with_waiting, without_half, with_under_way}
use Rattle.run.specs.Fit.{channel_at, totals_at, flag_at, count_at, Fits}
use Rattle.outputs.specs.Outputs.{is_full, some_full, at_most_of, sources_wait, put_all}
use Rattle.outputs.proofs.Places.{place_at, place_past}
use Rattle.step.specs.Algorithm.{answered, sealed, completed, turn_of, stored_by, taken_in}
use Rattle.step.specs.Step.{cut_off, last_or_none}
use Rattle.step.proofs.Fitting.{turn_first, set_has, replicate_has}
use Rattle.promises.proofs.Reading.{items_of, source_of, source_is, source_out, offset_in, law_run, gone_at, lives_of, half_at, half_off_at}
use Rattle.promises.proofs.Reading.{at_with, at, read_out, Sized, end_of, to_at, end_is, read_job}
use Rattle.promises.proofs.Queued.{popped, rest_wide, fewer}
use Rattle.promises.proofs.Held.{set_at, at_set, Queues, chans_of, items_for, put_all_items, pop_items}
use Rattle.promises.proofs.Asked.{same_at, stored_is, counted_at, offset_more, offset_same}

-- ---- channels
pub queues : (job : Job) (run : Run) → Fits job run → Sized run → Queues run.channels
queues job run F S = record { long = S.channels; places = S.items; few = λ c l. (F.channels c l).room }

pub popped_queues : (l : List Channel) (d : ℕ) → Queues l → Queues (popped l d)
popped_queues l d Q =
    let w = rest_wide l d (record { long = Q.long; places = Q.places }) in
    record { long = w.long; places = w.places; few = λ c h. fewer l d c 8 (Q.few c h) }

-- an output with room
pub roomy : (job : Job) (l : List Channel) (t : ℕ) → some_full job l t ≡ false → (c : ℕ) → c < job.channels → is_output job t c ≡ true
    → (get_or l c no_channel).count < 8
unfolding some_full
roomy job l t e c lc out =
    leb-false 8 (get_or l c no_channel).count
    (ap (λ b. b && is_full (get_or l c no_channel)) (sym out)
    ∙ some_none (λ c. is_output job t c && is_full (get_or l c no_channel)) job.channels e c lc)

cond_twice : {C : Type 0} (b : Bool) (x y z : C) → cond b x z ≡ cond b x (cond b y z)
cond_twice true x y z = refl
cond_twice false x y z = refl

most_same : (n x : ℕ) → x ≤ n → at_most_of n x ≡ x
most_same n x h = ap (λ b. cond b n x) (le-ltb n x h)

-- ---- the parts
module _ (job : Job) (cylinders values : List ℤ) (JF : JobFits job (length cylinders)) where
  abbrev J : LawJob
  J = read_job job cylinders values JF

  few : job.channels ≤ 32
  few = JF.sends.sized.few_channels

  few_tasks : job.tasks ≤ 16
  few_tasks = JF.sends.sized.few_tasks

  no_off : (v : ℕ) → cond (source_of job v) no_totals.count 0 ≡ 0
  no_off v = cond_same (source_of job v) 0

  none_half : (k v : ℕ) → half_at (replicate 16 no_totals) k v ≡ tot_mon.unit
  none_half k v = ap (λ (x : Totals). cond (eqb k 0) (encode x) tot_mon.unit) (same_at 16 v no_totals) ∙ cond_same (eqb k 0) tot_mon.unit

  none_off : (k v : ℕ) → half_off_at job (replicate 16 no_totals) k v ≡ 0
  none_off k v =
      ap (λ x. cond (eqb k 0) x 0)
      (ap (λ (x : Totals). cond (source_of job v) x.count 0) (same_at 16 v no_totals) ∙ no_off v) ∙ cond_same (eqb k 0) 0

  -- a source reads
  pub read_is : (run : Run) (t : ℕ) (r : Record) → Sized run → Queues run.channels → t < job.tasks → source_of job t ≡ true
      → some_full job run.channels t ≡ false → at job (taken_in job run t r) ≡ read_s J (at job run) t r
  unfolding taken_in
  read_is run t r S Q lt src room = λ i.
      law_run (λ c. put_all_items job t (Recorded r) run.channels Q few lt (roomy job run.channels t room) c i)
      (λ v. counted_at run.live t r.value here v i) (λ v. offset_more job run.live t r.value here src v i)
      (gone_at job run.stored run.marked) (count_at run.waiting) (count_at run.stored) (half_at run.half)
      (half_off_at job run.half) run.under_way (lives_of (last_or_none run)) (offset_in job (last_or_none run))
    where
      here : t < length run.live
      here = omega (arith, S.live, few_tasks)

  -- nothing is ever logged
  pub quiet : (run : Run) (d i c : ℕ) → logs J (at job run) d i c ≡ false
  quiet run d i c = go (eqb d c) (ltb i (gone_at job run.stored run.marked c)) refl
    where
      go : (x y : Bool) → ltb i (gone_at job run.stored run.marked c) ≡ y
          → cond x (cond y false (ltb i (count_at run.stored (to_at job c)))) false ≡ false
      go true true e = refl
      go true false e =
          le-ltb i (count_at run.stored (to_at job c))
          (omega (arith, ltb-false i (gone_at job run.stored run.marked c) e))
      go false y e = refl

  module _ (run : Run) (d : ℕ) (S : Sized run) (Q : Queues run.channels) (ld : d < job.channels) (p : 0 < (channel_at run d).count) where
    low : d < 32
    low = omega (arith, few)

    to_is : to_at job d ≡ to_of job d
    to_is = end_is job (to_of job) d ld

    lt : to_of job d < job.tasks
    lt = JF.sends.sized.to_task d ld

    -- the record r at the head of d is delivered
    pub deliver_is : (r : Record) → some_full job run.channels (to_of job d) ≡ false
        → at job (taken_in job (with_channels (popped run.channels d) run) (to_of job d) r) ≡ deliver_s J (at job run) d r
    unfolding taken_in
    deliver_is r room = λ i. record {
      chan = λ c. chans c i;
      live = λ v. (counted_at run.live t r.value here v ∙ ap (λ u. counted v u) (sym to_is)) i;
      off = λ v. offset_same job run.live t (with_value (totals_at run.live t) r.value) here other v i;
      gone = gone_at job run.stored run.marked;
      wait = count_at run.waiting;
      stored = count_at run.stored;
      half = half_at run.half;
      half_off = half_off_at job run.half;
      log = λ k c. no_log k c i;
      front = λ c. minus (bit (eqb d c)) i;
      going = run.under_way;
      last = lives_of (last_or_none run);
      last_off = offset_in job (last_or_none run);
      last_log = λ c. [];
    }
      where
        t : ℕ
        t = to_of job d

        minus : (n : ℕ) → 0 ≡ 0 - n
        minus n = omega arith

        no_log : (k c : ℕ) → [] ≡ keep (logs J (at job run) d k c) (r ∷ [])
        no_log k c = ap (λ b. keep b (r ∷ [])) (sym (quiet run d k c))

        other : source_of job t ≡ false
        other = source_is job t lt ∙ JF.no_input d ld

        here : t < length run.live
        here = omega (arith, S.live, few_tasks, lt)

        counted : ℕ → ℕ → tot_mon.Car
        counted v u = tot_mon.op (encode (totals_at run.live v)) (pick tot_mon (eqb v u) (one_total r.value))

        chans : (c : ℕ) → chans_of (put_all job t (Recorded r) (popped run.channels d)) c
            ≡ put J (pop J (chans_of run.channels) d) (to_at job d) (items_for job (Recorded r)) c
        chans c =
            put_all_items job t (Recorded r) (popped run.channels d) (popped_queues run.channels d Q) few lt
            (λ c lc out. omega (arith, fewer run.channels d c 7 (omega (arith, roomy job run.channels t room c lc out)))) c
            ∙ ap₂ (λ x u. x ++ keep (eqb (end_of job (from_of job) c) u) (items_for job (Recorded r) c))
            (pop_items run.channels Q d low p c) (sym to_is)

    -- the barrier at the head of d is taken, and d is marked
    pub marked_gone : flag_at run.marked d ≡ false → (c : ℕ)
        → bit (flag_at (set run.marked d true) c) ≡ bit (flag_at run.marked c) + bit (eqb d c)
    marked_gone mk c = ap bit (at_set run.marked d true false (omega (arith, S.marked, few)) c) ∙ go (eqb d c) refl
      where
        go : (b : Bool) → eqb d c ≡ b → bit (cond b true (flag_at run.marked c)) ≡ bit (flag_at run.marked c) + bit b
        go true e = omega (arith, ap bit (ap (flag_at run.marked) (sym (eqb-true d c e)) ∙ mk))
        go false e = omega arith

    pub mark_is : flag_at run.marked d ≡ false
        → at job (with_marked (set run.marked d true) (with_channels (popped run.channels d) run)) ≡ mark_s J (at job run) d
    mark_is mk = λ i.
        law_run (λ c. pop_items run.channels Q d low p c i) (lives_of run.live) (offset_in job run.live)
        (λ c. more c i) (count_at run.waiting) (count_at run.stored) (half_at run.half) (half_off_at job run.half)
        run.under_way (lives_of (last_or_none run)) (offset_in job (last_or_none run))
      where
        more : (c : ℕ) → gone_at job run.stored (set run.marked d true) c
            ≡ gone_at job run.stored run.marked c + bit (eqb d c)
        more c = omega (arith, marked_gone mk c)

  -- the snapshot is complete
  finish_is : (run : Run) → run.under_way ≤ 1 → ((v : ℕ) → count_at run.stored v ≤ 1)
      → ((c : ℕ) → 0 < bit (flag_at run.marked c) → 0 < count_at run.stored (to_at job c)) → at job (sealed run) ≡ finish_s J (at job run)
  finish_is run most stored all = λ i.
      law_run (chans_of run.channels) (lives_of run.live) (offset_in job run.live) (λ c. gone c i) (count_at run.waiting)
      (λ v. none v i)
      (λ k v. (none_half k v ∙ later tot_mon.unit k (encode (totals_at run.half v))) i)
      (λ k v. (none_off k v ∙ later 0 k (offset_in job run.half v)) i)
      (ends i) (lives_of run.half) (offset_in job run.half)
    where
      ends : 0 ≡ run.under_way - 1
      ends = omega arith

      none : (v : ℕ) → count_at (replicate 16 0) v ≡ count_at run.stored v - 1
      none v = omega (arith, same_at {A = ℕ} 16 v 0, stored v)

      later : {C : Type 0} (ε : C) (k : ℕ) (x : C) → ε ≡ cond (eqb (suc k) 0) x ε
      later ε k x = ap (λ b. cond b x ε) (sym (ne_eqb (suc k) 0 (omega arith)))

      gone : (c : ℕ) → gone_at job (replicate 16 0) run.marked c ≡ gone_at job run.stored run.marked c - 1
      gone c = go (flag_at run.marked c) refl
        where
          go : (b : Bool) → flag_at run.marked c ≡ b
              → count_at (replicate 16 0) (to_at job c) + bit b ≡ count_at run.stored (to_at job c) + bit b - 1
          go true e = let h = all c (omega (arith, ap bit e)) in omega (arith, none (to_at job c), stored (to_at job c))
          go false e = omega (arith, none (to_at job c), stored (to_at job c))

  -- "if a snapshot is under way and every task has stored, it becomes the last complete one"
  completed_is : (run : Run) → run.under_way ≤ 1 → ((v : ℕ) → count_at run.stored v ≤ 1)
      → ((c : ℕ) → job.channels ≤ c → flag_at run.marked c ≡ false) → read_out job (completed job run) ≡ end_f J (at job run)
  unfolding completed
  completed_is run most stored far =
      ap (λ b. read_out job (cond (ltb 0 run.under_way && b) (answered 20 (sealed run)) (answered 0 run))) (stored_is job run.stored)
      ∙ go (ltb 0 run.under_way) (all_n job.tasks (λ t. ltb 0 (count_at run.stored t))) refl
      ∙ ap (λ b. cond (ltb 0 run.under_way)
      (cond (cond (all_n job.tasks (λ t. ltb 0 (count_at run.stored t))) b false) (ended (finish_s J (at job run))) (done (at job run)))
      (done (at job run))) (sym (all_yes job.channels))
    where
      stored_all : all_n job.tasks (λ t. ltb 0 (count_at run.stored t)) ≡ true → (c : ℕ) → 0 < bit (flag_at run.marked c)
          → 0 < count_at run.stored (to_at job c)
      stored_all q c h = inside (ltb c job.channels) refl
        where
          inside : (b : Bool) → ltb c job.channels ≡ b → 0 < count_at run.stored (to_at job c)
          inside true e =
              let lc = ltb-true c job.channels e in
              ltb-true 0 (count_at run.stored (to_at job c))
              (all_true job.tasks (λ t. ltb 0 (count_at run.stored t)) q (to_at job c)
              (omega (arith, end_is job (to_of job) c lc, JF.sends.sized.to_task c lc)))
          inside false e = absurd (omega (arith, ap bit (far c (ltb-false c job.channels e))))

      go : (x y : Bool) → all_n job.tasks (λ t. ltb 0 (count_at run.stored t)) ≡ y
          → read_out job (cond (x && y) (answered 20 (sealed run)) (answered 0 run))
          ≡ cond x (cond (cond y true false) (ended (finish_s J (at job run))) (done (at job run))) (done (at job run))
      go true true q = ap {B = Out (LawRun Record tot_mon.Car)} ended (finish_is run most stored (stored_all q))
      go true false q = refl
      go false y q = refl

  -- ---- task t stores. In `laws` its waiting barrier goes in the same part, and what was taken from its inputs stays taken; here the
  -- waiting barrier is gone already and the marks are cleared: `gone` and `wait` are what they were
  -- it is the first that t has not stored
  stored_next : (run : Run) (t : ℕ) → count_at run.stored t < run.under_way
      → turn_of (count_at run.stored t) run.under_way ≡ count_at run.stored t
  unfolding turn_of
  stored_next run t on =
      ap (λ b. cond b (count_at run.stored t) (run.under_way - 1)) (lt-ltb (count_at run.stored t) run.under_way on)

  module _ (run : Run) (S : Sized run) (Q : Queues run.channels) (t : ℕ) (lt : t < job.tasks)
      (room : (c : ℕ) → c < job.channels → is_output job t c ≡ true → (channel_at run c).count < 8)
      (on : count_at run.stored t < run.under_way) (most : run.under_way ≤ 1)
      (gone wait : ℕ → ℕ)
      (gones : (c : ℕ) → gone_at job (set run.stored t (count_at run.stored t + 1)) run.marked c ≡ gone c)
      (waits : (v : ℕ) → count_at run.waiting v ≡ wait v - bit (eqb v t)) where
    halves : {C : Type 0} (ε : C) (f : ℕ → Totals → C) (i v : ℕ) → let was = cond (eqb i 0) (f v (totals_at run.half v)) ε in
        cond (eqb i 0) (f v (totals_at (set run.half t (totals_at run.live t)) v)) ε
        ≡ cond (eqb v t) (cond (eqb i (count_at run.stored v)) (f v (totals_at run.live v)) was) was
    halves ε f i v =
        ap (λ x. cond (eqb i 0) (f v x) ε) (set_at run.half t _ no_totals (omega (arith, S.half, few_tasks)) v) ∙ own (eqb v t) refl
      where
        own : (b : Bool) → eqb v t ≡ b → let was = cond (eqb i 0) (f v (totals_at run.half v)) ε in
            cond (eqb i 0) (f v (cond b (totals_at run.live t) (totals_at run.half v))) ε
            ≡ cond b (cond (eqb i (count_at run.stored v)) (f v (totals_at run.live v)) was) was
        own true e =
            let z : count_at run.stored v ≡ 0 = ap (count_at run.stored) (eqb-true v t e) ∙ omega (arith, on, most) in
            ap (λ u. cond (eqb i 0) (f v (totals_at run.live u)) ε) (sym (eqb-true v t e)) ∙ cond_twice (eqb i 0) _ _ _
            ∙ ap (λ n. cond (eqb i n) (f v (totals_at run.live v)) (cond (eqb i 0) (f v (totals_at run.half v)) ε)) (sym z)
        own false e = refl

    stores : (v : ℕ) → get_or (set run.stored t (count_at run.stored t + 1)) v 0 ≡ count_at run.stored v + bit (eqb v t)
    stores v = set_at run.stored t (count_at run.stored t + 1) 0 (omega (arith, S.stored, few_tasks)) v ∙ go (eqb v t) refl
      where
        go : (b : Bool) → eqb v t ≡ b → cond b (count_at run.stored t + 1) (count_at run.stored v) ≡ count_at run.stored v + bit b
        go true e = ap (λ u. count_at run.stored u + 1) (sym (eqb-true v t e))
        go false e = omega arith

    store_is : at job (stored_by job run t) ≡ store_s J (at_with job gone wait run) t
    unfolding stored_by
    store_is = λ i.
        law_run (λ c. put_all_items job t Barrier run.channels Q few lt room c i) (lives_of run.live) (offset_in job run.live)
        (λ c. (ap (λ n. gone_at job (set run.stored t (n + 1)) run.marked c) (stored_next run t on) ∙ gones c) i) (λ v. waits v i)
        (λ v. (ap (λ n. count_at (set run.stored t (n + 1)) v) (stored_next run t on) ∙ stores v) i)
        (λ k v. halves tot_mon.unit (λ v x. encode x) k v i) (λ k v. halves 0 (λ v x. cond (source_of job v) x.count 0) k v i)
        run.under_way (lives_of (last_or_none run)) (offset_in job (last_or_none run))

    -- and where every task has stored, the snapshot is complete
    pub stored_read : ((v : ℕ) → count_at run.stored v ≤ run.under_way)
        → ((c : ℕ) → job.channels ≤ c → flag_at run.marked c ≡ false)
        → read_out job (completed job (stored_by job run t)) ≡ end_f J (store_s J (at_with job gone wait run) t)
    unfolding stored_by
    stored_read idle far = completed_is (stored_by job run t) most stored_one far ∙ ap (end_f J) store_is
      where
        stored_one : (v : ℕ) → count_at (set run.stored t (turn_of (count_at run.stored t) run.under_way + 1)) v ≤ 1
        stored_one v =
            set_has (λ u x. x ≤ 1) run.stored t _ 0 v (omega (arith, turn_first (count_at run.stored t) run.under_way most))
            (omega arith) (λ ne. omega (arith, idle v, most))

  -- ---- a snapshot begins
  sources_wait_lem : (n : ℕ) (l : List ℕ) → length l ≡ 16 → ((v : ℕ) → get_or l v 0 ≤ n) → (v : ℕ)
      → get_or (sources_wait job n l) v 0 ≡ get_or l v 0 + bit (source_of job v)
  unfolding sources_wait
  sources_wait_lem n l e h v = go (ltb v job.tasks) refl
    where
      f : ℕ → ℕ → ℕ
      f t w = cond (is_source job t) (at_most_of n w + 1) w

      one : (b : Bool) → cond b (at_most_of n (get_or l v 0) + 1) (get_or l v 0) ≡ get_or l v 0 + bit b
      one true = ap (λ x. x + 1) (most_same n (get_or l v 0) (h v))
      one false = omega arith

      go : (b : Bool) → ltb v job.tasks ≡ b → get_or (sources_wait job n l) v 0 ≡ get_or l v 0 + bit (source_of job v)
      go true q =
          let lv = ltb-true v job.tasks q in
          place_at 0 f l job.tasks v lv (omega (arith, few_tasks)) ∙ one (is_source job v)
          ∙ ap (λ b. get_or l v 0 + bit b) (sym (source_is job v lv))
      go false q =
          let lv = ltb-false v job.tasks q in
          place_past 0 f l job.tasks v lv ∙ omega (arith, ap bit (source_out job v lv))

  pub begin_is : (run : Run) → Sized run → run.under_way < 1
      → ((v : ℕ) → count_at run.stored v ≤ run.under_way) → ((v : ℕ) → count_at run.waiting v ≤ run.under_way)
      → at job (with_under_way 1 (without_half (with_waiting (sources_wait job run.under_way run.waiting) run)))
      ≡ begin_s J (at job run)
  begin_is run S room idle waits = λ i.
      law_run (chans_of run.channels) (lives_of run.live) (offset_in job run.live)
      (λ c. none (to_at job c) i + bit (flag_at run.marked c))
      (λ v. sources_wait_lem run.under_way run.waiting S.waiting waits v i)
      (λ v. none v i)
      (λ k v. (none_half k v ∙ cleared tot_mon.unit k (encode (totals_at run.half v))) i)
      (λ k v. (none_off k v ∙ cleared 0 k (offset_in job run.half v)) i)
      (more i) (lives_of (last_or_none run)) (offset_in job (last_or_none run))
    where
      more : 1 ≡ suc run.under_way
      more = omega arith

      none : (v : ℕ) → count_at (replicate 16 0) v ≡ count_at run.stored v
      none v = omega (arith, same_at {A = ℕ} 16 v 0, idle v)

      zero_way : run.under_way ≡ 0
      zero_way = omega arith

      cleared : {C : Type 0} (ε : C) (k : ℕ) (x : C) → ε ≡ cond (eqb k run.under_way) ε (cond (eqb k 0) x ε)
      cleared ε k x =
          sym (cond_same (eqb k 0) ε) ∙ cond_twice (eqb k 0) ε x ε ∙ ap (λ n. cond (eqb k n) ε (cond (eqb k 0) x ε)) (sym zero_way)

  -- ---- a cut
  pub cut_is : (run : Run) → at job (cut_off run) ≡ cut_s J (at job run)
  unfolding cut_off
  cut_is run = λ i.
      law_run (λ c. replicate_has (λ (ch : Channel). items_of (held ch) ≡ []) 32 empty_channel no_channel c refl refl i)
      (lives_of (last_or_none run)) (offset_in job (last_or_none run)) (λ c. gone c i)
      (λ v. same_at 16 v 0 i) (λ v. same_at 16 v 0 i) (λ k v. none_half k v i) (λ k v. none_off k v i)
      0 (lives_of (last_or_none run)) (offset_in job (last_or_none run))
    where
      gone : (c : ℕ) → count_at (replicate 16 0) (to_at job c) + bit (flag_at (replicate 32 false) c) ≡ 0
      gone c = omega (arith, same_at {A = ℕ} 16 (to_at job c) 0, ap bit (same_at 32 c false))
