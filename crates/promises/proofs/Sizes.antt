-- A run keeps the sizes of its arrays: the fresh run has them (`fresh_sized`), and every step, done or refused, keeps them
-- (`stepped_sized`).
use mathlib.Core.Path.{◌≡◌, ap, ◌∙◌}
use mathlib.Core.Bool.{Bool, true, false, ◌&&◌}
use mathlib.Core.List.{List}
use Prim.Native.Nat.{ℕ, zero, suc, ◌-◌, ◌<◌}
use native.Mathlib.Omega.{arith}
use lib.Dec.{eqb, ltb, leb}
use lib.IntN.{ℤ, nat_abs}
use lib.ListN.{length, get_or, set, replicate, length-set, length-replicate, get_or-replicate}
use Rattle.tally.specs.declared.Record.{Record}
use Rattle.tally.specs.declared.Totals.{Totals}
use Rattle.tally.specs.Totals.{no_totals}
use Rattle.std.specs.Prelude.{Option}
use Rattle.std.specs.Prelude.{None, Some}
use Rattle.channel.specs.declared.Cargo.{Cargo}
use Rattle.channel.specs.declared.Cargo.TheVariants.{Barrier, Record as Recorded}
use Rattle.channel.specs.declared.Channel.{Channel}
use Rattle.channel.specs.declared.Added.{Added}
use Rattle.channel.specs.Channels.{empty_channel, with_item, without_head}
use Rattle.job.specs.declared.Job.{Job}
use Rattle.job.specs.Jobs.{b_of, to_of, is_output}
use Rattle.job.specs.Graph.{sent_by}
use Rattle.run.specs.declared.Run.{Run}
use Rattle.run.specs.Runs.{fresh_run, no_channel, with_channels, with_marked, with_waiting}
use Rattle.run.specs.Fit.{channel_at, totals_at, flag_at, count_at}
use Rattle.outputs.specs.Outputs.{some_full, all_marked, all_stored, each_place, unmarked, sources_wait, put, put_sent, carried, put_on, put_all}
use Rattle.outputs.proofs.Places.{length_places}
use Rattle.step.specs.declared.Stepped.{Stepped}
use Rattle.step.specs.Algorithm.{completed, stored_by, barrier_received, taken_in, record_received}
use Rattle.step.specs.Step.{with_cargo, with_taken, delivered, is_no_source, offset_of, source_read, barrier_sent, begun, cut_off, stepped}
use Rattle.step.proofs.Fitting.{cond_has}
use Rattle.promises.proofs.Reading.{Sized}
use Rattle.promises.proofs.Queued.{set_keeps, Wide, rest_wide}

-- ---- a place that a list has, after a loop over its places
places_keep : {A : Type 0} (P : A → Type 0) (d : A) (f : ℕ → A → A) (l : List A) (n : ℕ) → ((i : ℕ) (x : A) → P x → P (f i x))
    → ((i : ℕ) → i < length l → P (get_or l i d)) → (i : ℕ) → i < length l → P (get_or (each_place d f l n) i d)
unfolding each_place
places_keep P d f l zero keep h i li = h i li
places_keep P d f l (suc n) keep h i li =
    let before = places_keep P d f l n keep h in
    set_keeps P (each_place d f l n) n _ d i (omega (arith, length_places d f l n))
    (λ q. keep n _ (before n (omega (arith, length_places d f l n)))) (before i li)

-- ---- a channel's 8 places
put_wide : (ch : Channel) (cargo : Cargo) → length ch.items ≡ 8 → length (put ch cargo).items ≡ 8
unfolding with_item
put_wide ch cargo w =
    cond_has (λ (a : Added). length a.channel.items ≡ 8) (ltb 8 ch.count) (λ _. w)
    (λ _. cond_has (λ (a : Added). length a.channel.items ≡ 8) (eqb ch.count 8) (λ _. w)
    (λ _. length-set ch.items ch.count (record { cargo = cargo }) ∙ w))

sent_wide : (ch : Channel) (s : Option Record) → length ch.items ≡ 8 → length (put_sent ch s).items ≡ 8
sent_wide ch None w = w
sent_wide ch (Some r) w = put_wide ch (Recorded r) w

carried_wide : (job : Job) (t place outputs : ℕ) (cargo : Cargo) (ch : Channel) → length ch.items ≡ 8
    → length (carried job t place outputs cargo ch).items ≡ 8
carried_wide job t place outputs Barrier ch w = put_wide ch Barrier w
carried_wide job t place outputs (Recorded r) ch w = sent_wide ch (sent_by job t place outputs r) w

on_wide : (job : Job) (t : ℕ) (cargo : Cargo) (c : ℕ) (ch : Channel) → length ch.items ≡ 8 → length (put_on job t cargo c ch).items ≡ 8
unfolding put_on
on_wide job t cargo c ch w =
    cond_has (λ (x : Channel). length x.items ≡ 8) (is_output job t c) (λ _. carried_wide job t _ _ cargo ch w) (λ _. w)

-- ---- 32 channels
put_all_wide : (job : Job) (t : ℕ) (cargo : Cargo) (l : List Channel) → Wide l → Wide (put_all job t cargo l)
unfolding put_all
put_all_wide job t cargo l w = record {
  long = length_places no_channel (put_on job t cargo) l job.channels ∙ w.long;
  places = λ c h.
      places_keep (λ (x : Channel). length x.items ≡ 8) no_channel (put_on job t cargo) l job.channels (λ i x. on_wide job t cargo i x)
      (λ i q. w.places i (omega (arith, w.long))) c (omega (arith, w.long));
}

fresh_wide : Wide (replicate 32 empty_channel)
fresh_wide = record {
  long = length-replicate 32 empty_channel;
  places = λ c h. ap (λ (x : Channel). length x.items) (get_or-replicate 32 c empty_channel no_channel h);
}

-- ---- the run
sized : {run : Run} → Wide run.channels → length run.marked ≡ 32 → length run.waiting ≡ 16 → length run.live ≡ 16
    → length run.half ≡ 16 → length run.stored ≡ 16 → length run.last ≡ 16 → Sized run
sized w m wait live half stored last = record {
  channels = w.long;
  items = w.places;
  marked = m;
  waiting = wait;
  live = live;
  half = half;
  stored = stored;
  last = last;
}

zeros_long : length (replicate 16 no_totals) ≡ 16
zeros_long = length-replicate 16 no_totals

none_long : (n : ℕ) → length {A = ℕ} (replicate n 0) ≡ n
none_long n = length-replicate {A = ℕ} n 0

unset_long : (n : ℕ) → length (replicate n false) ≡ n
unset_long n = length-replicate n false

module _ (run : Run) (S : Sized run) where
  pub wide : Wide run.channels
  wide = record { long = S.channels; places = S.items }

  -- other channels, marks, waiting barriers
  pub with_channels_lem : (l : List Channel) → Wide l → Sized (with_channels l run)
  with_channels_lem l w = sized w S.marked S.waiting S.live S.half S.stored S.last

  pub with_marked_lem : (l : List Bool) → length l ≡ 32 → Sized (with_marked l run)
  with_marked_lem l e = sized wide e S.waiting S.live S.half S.stored S.last

  pub with_waiting_lem : (l : List ℕ) → length l ≡ 16 → Sized (with_waiting l run)
  with_waiting_lem l e = sized wide S.marked e S.live S.half S.stored S.last

pub fresh_sized : Sized fresh_run
fresh_sized = sized fresh_wide (unset_long 32) (none_long 16) zeros_long zeros_long (unset_long 16) zeros_long

module _ (job : Job) where
  completed_sized : (run : Run) → Sized run → Sized (completed job run).run
  unfolding completed
  completed_sized run S =
      cond_has (λ (s : Stepped). Sized s.run) (ltb 0 run.under_way && all_stored job run.stored)
      (λ _. sized (wide run S) S.marked S.waiting S.live zeros_long (none_long 16) S.half) (λ _. S)

  pub stored_sized : (run : Run) (t : ℕ) → Sized run → Sized (stored_by job run t)
  unfolding stored_by
  stored_sized run t S =
      sized (put_all_wide job t Barrier run.channels (wide run S)) S.marked S.waiting S.live
      (length-set run.half t _ ∙ S.half) (length-set run.stored t _ ∙ S.stored) S.last

  taken_in_sized : (run : Run) (t : ℕ) (r : Record) → Sized run → Sized (taken_in job run t r)
  unfolding taken_in
  taken_in_sized run t r S =
      sized (put_all_wide job t (Recorded r) run.channels (wide run S)) S.marked S.waiting
      (length-set run.live t _ ∙ S.live) S.half S.stored S.last

  pub unmarked_long : (l : List Bool) (t : ℕ) → length (unmarked job l t) ≡ length l
  unfolding unmarked
  unmarked_long l t = length_places false _ l job.channels

  barrier_sized : (run : Run) (t c : ℕ) → Sized run → Sized (barrier_received job run t c (without_head (channel_at run c)).channel).run
  unfolding barrier_received
  barrier_sized run t c S =
      let m : length (set run.marked c true) ≡ 32 = length-set run.marked c true ∙ S.marked in
      let rest = with_channels_lem run S _ (rest_wide run.channels c (wide run S)) in
      cond_has (λ (s : Stepped). Sized s.run) (all_marked job (set run.marked c true) t)
      (λ _. cond_has (λ (s : Stepped). Sized s.run) (some_full job run.channels t) (λ _. S)
      (λ _. completed_sized _ (stored_sized _ t (with_marked_lem _ rest _ (unmarked_long (set run.marked c true) t ∙ m)))))
      (λ _. with_marked_lem _ rest _ m)

  record_sized : (run : Run) (t c : ℕ) (r : Record) → Sized run
      → Sized (record_received job run t c r (without_head (channel_at run c)).channel).run
  unfolding record_received
  record_sized run t c r S =
      cond_has (λ (s : Stepped). Sized s.run) (some_full job run.channels t) (λ _. S)
      (λ _. cond_has (λ (s : Stepped). Sized s.run) (leb 1048576 (totals_at run.live t).count) (λ _. S)
      (λ _. taken_in_sized _ t r (with_channels_lem run S _ (rest_wide run.channels c (wide run S)))))

  cargo_sized : (run : Run) (c : ℕ) (cargo : Cargo) → Sized run
      → Sized (with_cargo job run c cargo (without_head (channel_at run c)).channel).run
  cargo_sized run c Barrier S = barrier_sized run (to_of job c) c S
  cargo_sized run c (Recorded r) S = record_sized run (to_of job c) c r S

  delivered_sized : (run : Run) (c : ℕ) → Sized run → Sized (delivered job run c).run
  unfolding delivered with_taken
  delivered_sized run c S =
      let got = without_head (channel_at run c) in
      cond_has (λ (s : Stepped). Sized s.run) (leb job.channels c) (λ _. S)
      (λ _. cond_has (λ (s : Stepped). Sized s.run) (flag_at run.marked c) (λ _. S)
      (λ _. cond_has (λ (s : Stepped). Sized s.run) (eqb got.answer 0) (λ _. cargo_sized run c got.item.cargo S) (λ _. S)))

  read_sized : (c v : List ℤ) (run : Run) (t : ℕ) → Sized run → Sized (source_read job c v run t).run
  unfolding source_read
  read_sized c v run t S =
      cond_has (λ (s : Stepped). Sized s.run) (is_no_source job t) (λ _. S)
      (λ _. cond_has (λ (s : Stepped). Sized s.run) (leb (nat_abs (b_of job t)) (offset_of run t)) (λ _. S)
      (λ _. cond_has (λ (s : Stepped). Sized s.run) (some_full job run.channels t) (λ _. S) (λ _. taken_in_sized run t _ S)))

  sent_sized : (run : Run) (t : ℕ) → Sized run → Sized (barrier_sent job run t).run
  unfolding barrier_sent
  sent_sized run t S =
      cond_has (λ (s : Stepped). Sized s.run) (is_no_source job t) (λ _. S)
      (λ _. cond_has (λ (s : Stepped). Sized s.run) (eqb (count_at run.waiting t) 0) (λ _. S)
      (λ _. cond_has (λ (s : Stepped). Sized s.run) (some_full job run.channels t) (λ _. S)
      (λ _. completed_sized _ (stored_sized _ t (with_waiting_lem run S _ (length-set run.waiting t _ ∙ S.waiting))))))

  begun_sized : (run : Run) → Sized run → Sized (begun job run).run
  unfolding begun sources_wait
  begun_sized run S =
      cond_has (λ (s : Stepped). Sized s.run) (leb 1 run.under_way) (λ _. S)
      (λ _. sized (wide run S) S.marked (length_places 0 _ run.waiting job.tasks ∙ S.waiting) S.live zeros_long
      (none_long 16) S.last)

cut_sized : (run : Run) → Sized run → Sized (cut_off run)
unfolding cut_off
cut_sized run S =
    sized fresh_wide (unset_long 32) (none_long 16)
    (cond_has (λ (l : List Totals). length l ≡ 16) run.complete (λ _. S.last) (λ _. zeros_long)) zeros_long (none_long 16) S.last

pub stepped_sized : (job : Job) (c v : List ℤ) (run : Run) (k : ℕ) → Sized run → Sized (stepped job c v run k).run
unfolding stepped
stepped_sized job c v run k S =
    cond_has (λ (s : Stepped). Sized s.run) (ltb k 32) (λ _. delivered_sized job run k S)
    (λ _. cond_has (λ (s : Stepped). Sized s.run) (ltb k 48) (λ _. read_sized job c v run (k - 32) S)
    (λ _. cond_has (λ (s : Stepped). Sized s.run) (ltb k 64) (λ _. sent_sized job run (k - 48) S)
    (λ _. cond_has (λ (s : Stepped). Sized s.run) (eqb k 64) (λ _. begun_sized job run S)
    (λ _. cond_has (λ (s : Stepped). Sized s.run) (eqb k 65) (λ _. cut_sized run S) (λ _. S)))))
