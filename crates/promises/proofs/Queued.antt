-- The run's 32 channels of 8 places (`Wide`): a head taken, and what is put on the outputs of a task (`outputs_hold`, `others_same`).
use mathlib.Core.Path.{◌≡◌, refl, sym, ap, ◌∙◌}
use mathlib.Core.Bool.{Bool, true, false, cond}
use mathlib.Core.List.{List, [], ◌∷◌, ◌++◌, map, append-nil}
use Prim.Native.Nat.{ℕ, zero, suc, ◌<◌, ◌≤◌}
use native.Mathlib.Omega.{arith}
use borrow.Author.Tests.{eqb-true, eq-eqb, ltb-true, ltb-false}
use lib.Dec.{eqb, ltb}
use lib.ListN.{length, get_or, set, drop, length-set, length-append, length-drop}
use Rattle.tally.specs.declared.Record.{Record}
use Rattle.std.specs.Prelude.{Option}
use Rattle.std.specs.Prelude.{None, Some}
use Rattle.channel.specs.declared.Cargo.{Cargo}
use Rattle.channel.specs.declared.Cargo.TheVariants.{Barrier, Record as Recorded}
use Rattle.channel.specs.declared.Channel.{Channel}
use Rattle.channel.specs.declared.Item.{Item}
use Rattle.channel.specs.declared.Taken.{Taken}
use Rattle.channel.specs.Channels.{held, barrier, without_head}
use Rattle.channel.proofs.Queues.{added_holds}
use Rattle.job.specs.declared.Job.{Job}
use Rattle.job.specs.Jobs.{from_of, is_output, place_of}
use Rattle.job.specs.Graph.{as_list, sent_by, sent_over, over_channel}
use Rattle.run.specs.Runs.{no_channel}
use Rattle.outputs.specs.Outputs.{put_sent, carried, put_on, put_all}
use Rattle.outputs.proofs.Places.{place_at, place_past}
use Rattle.step.proofs.Fitting.{cond_has, set_has}
use Rattle.promises.proofs.Conditions.{fails}

-- ---- a place that a list has, after a store
pub set_keeps : {A : Type 0} (P : A → Type 0) (l : List A) (k : ℕ) (x d : A) (j : ℕ) → j < length l → (k < length l → P x) → P (get_or l j d)
    → P (get_or (set l k x) j d)
set_keeps P [] k x d j h p r = absurd (omega arith)
set_keeps P (y ∷ l) zero x d zero h p r = p h
set_keeps P (y ∷ l) zero x d (suc j) h p r = r
set_keeps P (y ∷ l) (suc k) x d zero h p r = r
set_keeps P (y ∷ l) (suc k) x d (suc j) h p r = set_keeps P l k x d j (omega arith) (λ q. p (omega arith)) r

taken_wide : (ch : Channel) → length ch.items ≡ 8 → length (without_head ch).channel.items ≡ 8
unfolding without_head
taken_wide ch w =
    cond_has (λ (a : Taken). length a.channel.items ≡ 8) (ltb 8 ch.count) (λ _. w)
    (λ _. cond_has (λ (a : Taken). length a.channel.items ≡ 8) (eqb ch.count 0) (λ _. w)
    (λ _. omega (arith, length-append (drop 1 ch.items) (barrier ∷ []), length-drop 1 ch.items)))

taken_fewer : (ch : Channel) → (without_head ch).channel.count ≤ ch.count
unfolding without_head
taken_fewer ch =
    cond_has (λ (a : Taken). a.channel.count ≤ ch.count) (ltb 8 ch.count) (λ _. omega arith)
    (λ _. cond_has (λ (a : Taken). a.channel.count ≤ ch.count) (eqb ch.count 0) (λ _. omega arith) (λ _. omega arith))

-- ---- 32 channels of 8 places, and the head of one taken
pub record Wide (l : List Channel) : Type 0 where
  pub long : length l ≡ 32
  pub places : (c : ℕ) → c < 32 → length (get_or l c no_channel).items ≡ 8

-- the head of channel d taken
abbrev pub popped : List Channel → ℕ → List Channel
popped l d = set l d (without_head (get_or l d no_channel)).channel

pub rest_wide : (l : List Channel) (c : ℕ) → Wide l → Wide (popped l c)
rest_wide l c w = record {
  long = length-set l c _ ∙ w.long;
  places = λ d h.
      set_keeps (λ (x : Channel). length x.items ≡ 8) l c _ no_channel d (omega (arith, w.long))
      (λ q. taken_wide (get_or l c no_channel) (w.places c (omega (arith, w.long)))) (w.places d h);
}

-- a head taken: no channel holds more than it did
pub fewer : (l : List Channel) (d c n : ℕ) → (get_or l c no_channel).count ≤ n
    → (get_or (popped l d) c no_channel).count ≤ n
fewer l d c n h =
    set_has (λ j (ch : Channel). (get_or l j no_channel).count ≤ n → ch.count ≤ n) l d _ no_channel c
    (λ q. omega (arith, taken_fewer (get_or l d no_channel))) (λ q. omega arith) (λ ne q. q) h

-- ---- what is put on the outputs of a task: behind what each held, and nothing elsewhere
abbrev pub as_item : Record → Item
as_item r = record { cargo = Recorded r }

abbrev pub items_for : Job → Cargo → ℕ → List Item
items_for job Barrier d = barrier ∷ []
items_for job (Recorded r) d = map as_item (over_channel job d r)

module _ (job : Job) (few : job.channels ≤ 32) (t : ℕ) (l : List Channel) (W : Wide l) where
  sent_holds : (ch : Channel) → length ch.items ≡ 8 → ch.count < 8 → (s : Option Record)
      → held (put_sent ch s) ≡ held ch ++ map as_item (as_list s)
  sent_holds ch wide h None = sym (append-nil (held ch))
  sent_holds ch wide h (Some r) = added_holds ch wide (record { cargo = Recorded r }) h

  carried_holds : (cargo : Cargo) (d : ℕ) (ch : Channel) → length ch.items ≡ 8 → ch.count < 8 → from_of job d ≡ t
      → held (carried job t (place_of job t d) (place_of job t job.channels) cargo ch) ≡ held ch ++ items_for job cargo d
  unfolding sent_over
  carried_holds Barrier d ch wide h e = added_holds ch wide (record { cargo = Barrier }) h
  carried_holds (Recorded r) d ch wide h e =
      sent_holds ch wide h (sent_by job t (place_of job t d) (place_of job t job.channels) r)
      ∙ ap (λ u. held ch ++ map as_item (as_list (sent_by job u (place_of job u d) (place_of job u job.channels) r)))
      (sym e)

  on_output : (cargo : Cargo) (d : ℕ) (ch : Channel) (b : Bool) → is_output job t d ≡ b
      → put_on job t cargo d ch ≡ cond b (carried job t (place_of job t d) (place_of job t job.channels) cargo ch) ch
  unfolding put_on
  on_output cargo d ch b e = ap (λ b. cond b (carried job t (place_of job t d) (place_of job t job.channels) cargo ch) ch) e

  module _ (cargo : Cargo) where
    below : (d : ℕ) → d < job.channels → get_or (put_all job t cargo l) d no_channel ≡ put_on job t cargo d (get_or l d no_channel)
    unfolding put_all
    below d ld = place_at no_channel (put_on job t cargo) l job.channels d ld (omega (arith, W.long))

    beyond : (d : ℕ) → job.channels ≤ d → get_or (put_all job t cargo l) d no_channel ≡ get_or l d no_channel
    unfolding put_all
    beyond d ld = place_past no_channel (put_on job t cargo) l job.channels d ld

    pub outputs_hold : (d : ℕ) → d < job.channels → from_of job d ≡ t → (get_or l d no_channel).count < 8
        → held (get_or (put_all job t cargo l) d no_channel) ≡ held (get_or l d no_channel) ++ items_for job cargo d
    outputs_hold d ld e room =
        ap held (below d ld ∙ on_output cargo d (get_or l d no_channel) true (eq-eqb (from_of job d) t e))
        ∙ carried_holds cargo d (get_or l d no_channel) (W.places d (omega arith)) room e

    pub others_same : (d : ℕ) → (d < job.channels → from_of job d ≡ t → ⊥) → get_or (put_all job t cargo l) d no_channel ≡ get_or l d no_channel
    others_same d out = go (ltb d job.channels) refl
      where
        go : (b : Bool) → ltb d job.channels ≡ b → get_or (put_all job t cargo l) d no_channel ≡ get_or l d no_channel
        go true e =
            let ld = ltb-true d job.channels e in
            below d ld ∙ on_output cargo d (get_or l d no_channel) false (fails (is_output job t d) (eqb-true (from_of job d) t) (out ld))
        go false e = beyond d (ltb-false d job.channels e)
