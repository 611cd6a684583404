-- A STEP KEEPS A FITTING RUN FITTING (`stepped_fits`). The fit is taken place by place: what each list of the run holds at a place, and each
-- part of a step keeps that of the lists it changes.
use mathlib.Core.Bool.{Bool, true, false, cond}
use mathlib.Core.Path.{◌≡◌, refl}
use mathlib.Core.List.{List, [], ◌∷◌, ◌++◌}
use Prim.Native.Nat.{ℕ, zero, suc, ◌+◌, ◌-◌, ◌≤◌, ◌<◌, ◌^◌}
use native.Mathlib.Omega.{arith}
use borrow.Author.Tests.{ltb-true, le-leb, eqb-false}
use lib.Dec.{ltb, eqb}
use lib.IntN.{ℤ, pos, nat_abs}
use lib.ListN.{get_or, set, replicate}
use lib.Seq.{get_or-drop}
use Rattle.tally.specs.declared.Record.{Record}
use Rattle.tally.specs.declared.Totals.{Totals}
use Rattle.tally.specs.Totals.{no_totals}
use Rattle.std.specs.Prelude.{Option}
use Rattle.std.specs.Prelude.{None, Some}
use Rattle.kinds.specs.Kinds.{sent_on, one_if, within, is_place, scaled}
use Rattle.kinds.proofs.Ints.{quot_fits}
use Rattle.channel.specs.declared.Cargo.{Cargo}
use Rattle.channel.specs.declared.Cargo.TheVariants.{Barrier, Record as Recorded}
use Rattle.channel.specs.declared.Channel.{Channel}
use Rattle.channel.specs.declared.Added.{Added}
use Rattle.channel.specs.declared.Taken.{Taken}
use Rattle.channel.specs.Channels.{barrier, empty_channel, with_item, without_head}
use Rattle.job.specs.declared.Job.{Job}
use Rattle.job.specs.Jobs.{is_source, is_output}
use Rattle.job.specs.Graph.{sent_by}
use Rattle.run.specs.declared.Run.{Run}
use Rattle.run.specs.Runs.{no_channel}
use Rattle.run.specs.Fit.{channel_at, totals_at, flag_at, count_at, cargo_fits, ChannelFits, TotalsFit, Fits}
use Rattle.run.proofs.Ints.{is_value_lem, value_is}
use Rattle.run.proofs.Clauses.{and_of}
use Rattle.outputs.specs.Outputs.{each_place, put, put_sent, carried, put_on, put_all}
use Rattle.outputs.proofs.Cargos.{cylinder_from_1, cylinder_to_20, value_fits}
use Rattle.step.specs.Algorithm.{turn_of}

-- ---- plain laws
-- a choice has what both sides have
pub cond_has : {A : Type 0} (P : A → Type 0) (b : Bool) {x y : A} → (b ≡ true → P x) → (b ≡ false → P y) → P (cond b x y)
cond_has P true p q = p refl
cond_has P false p q = q refl

-- with one under way at most, a task stores the first
pub turn_first : (stored under : ℕ) → under ≤ 1 → turn_of stored under ≡ 0
unfolding turn_of
turn_first stored under h =
    cond_has (λ n. n ≡ 0) (ltb stored under) (λ e. let l = ltb-true stored under e in omega arith) (λ _. omega arith)

-- each place after a store
pub set_has : {A : Type 0} (P : ℕ → A → Type 0) (l : List A) (k : ℕ) (x d : A) (j : ℕ) → P k x → P j d → ((j ≡ k → ⊥) → P j (get_or l j d))
    → P j (get_or (set l k x) j d)
set_has P [] k x d j p q r = q
set_has P (y ∷ l) zero x d zero p q r = p
set_has P (y ∷ l) zero x d (suc j) p q r = r (λ e. omega arith)
set_has P (y ∷ l) (suc k) x d zero p q r = r (λ e. omega arith)
set_has P (y ∷ l) (suc k) x d (suc j) p q r = set_has (λ i. P (suc i)) l k x d j p q (λ n. r (λ e. n (omega arith)))

pub replicate_has : {A : Type 0} (P : A → Type 0) (n : ℕ) (x d : A) (j : ℕ) → P x → P d → P (get_or (replicate n x) j d)
replicate_has P zero x d j p q = q
replicate_has P (suc n) x d zero p q = p
replicate_has P (suc n) x d (suc j) p q = replicate_has P n x d j p q

-- each place after a loop that makes the places below n anew
pub places_have : {A : Type 0} (P : ℕ → A → Type 0) (d : A) (f : ℕ → A → A) (l : List A) (n : ℕ) → ((i : ℕ) (x : A) → i < n → P i x → P i (f i x))
    → ((i : ℕ) → P i d) → ((i : ℕ) → P i (get_or l i d)) → (i : ℕ) → P i (get_or (each_place d f l n) i d)
unfolding each_place
places_have P d f l zero keep none h i = h i
places_have P d f l (suc n) keep none h i =
    let before = places_have P d f l n (λ k x lk. keep k x (omega arith)) none h in
    set_has P (each_place d f l n) n _ d i (keep n _ (omega arith) (before n)) (none i) (λ ne. before i)

-- an item more at the end that is the one past the end
snoc_same : {A : Type 0} (l : List A) (d : A) (j : ℕ) → get_or (l ++ d ∷ []) j d ≡ get_or l j d
snoc_same [] d zero = refl
snoc_same [] d (suc j) = refl
snoc_same (x ∷ l) d zero = refl
snoc_same (x ∷ l) d (suc j) = snoc_same l d j

-- ---- channels
none_fits : ChannelFits no_channel
none_fits = record { room = omega arith; cylinders = λ j h. absurd (omega arith) }

empty_fits : ChannelFits empty_channel
empty_fits = record { room = omega arith; cylinders = λ j h. absurd (omega arith) }

put_fits : (ch : Channel) (cargo : Cargo) → ChannelFits ch → cargo_fits cargo ≡ true → ChannelFits (put ch cargo)
unfolding with_item
put_fits ch cargo f k =
    cond_has (λ (a : Added). ChannelFits a.channel) (ltb 8 ch.count) (λ _. f)
    (λ _. cond_has (λ (a : Added). ChannelFits a.channel) (eqb ch.count 8) (λ _. f)
    (λ n. record {
      room = let ne : ch.count ≡ 8 → ⊥ = eqb-false ch.count 8 n in omega (arith, f.room);
      cylinders = λ j h.
          let l : j < ch.count + 1 = h in
          set_has (λ i x. cargo_fits x.cargo ≡ true) ch.items ch.count (record { cargo = cargo }) barrier j k refl
          (λ ne. f.cylinders j (omega arith));
    }))

pub taken_fits : (ch : Channel) → ChannelFits ch → ChannelFits (without_head ch).channel
unfolding without_head
taken_fits ch f =
    cond_has (λ (a : Taken). ChannelFits a.channel) (ltb 8 ch.count) (λ _. f)
    (λ _. cond_has (λ (a : Taken). ChannelFits a.channel) (eqb ch.count 0) (λ _. f)
    (λ n. record {
      room = omega (arith, f.room);
      cylinders = λ j h.
          let l : j < ch.count - 1 = h in
          rw (snoc_same, get_or-drop 1 ch.items j barrier) (f.cylinders (1 + j) (omega arith));
    }))

-- ---- what is sent fits as what was received
scaled_fits : (r : Record) (a : ℤ) → cargo_fits (Recorded r) ≡ true
    → cargo_fits (Recorded (record { cylinder = r.cylinder; value = scaled r.value a })) ≡ true
scaled_fits r a k =
    let v = value_is _ (quot_fits r.value (2 ^ nat_abs a) (is_value_lem r.value (value_fits r k))) in
    and_of _ _ (and_of _ _ (le-leb 1 r.cylinder (cylinder_from_1 r k)) (le-leb r.cylinder 20 (cylinder_to_20 r k))) v

abbrev pub SendingFits : Option Record → Type 0
SendingFits None = Unit {0}
SendingFits (Some r) = cargo_fits (Recorded r) ≡ true

one_fits : (keep : Bool) (r : Record) → cargo_fits (Recorded r) ≡ true → SendingFits (one_if keep r)
one_fits true r k = k
one_fits false r k = tt

pub sent_fits : (kind : ℕ) (a b : ℤ) (place outputs : ℕ) (r : Record) → cargo_fits (Recorded r) ≡ true → SendingFits (sent_on kind a b place outputs r)
unfolding sent_on
sent_fits kind a b place outputs r k =
    cond_has SendingFits (eqb kind 2) (λ _. one_fits (within a r.value b) r k)
    (λ _. cond_has SendingFits (eqb kind 3) (λ _. scaled_fits r a k)
    (λ _. cond_has SendingFits (eqb kind 4) (λ _. one_fits (within a (pos r.cylinder) b) r k)
    (λ _. cond_has SendingFits (eqb kind 5) (λ _. one_fits (is_place r.cylinder place outputs) r k) (λ _. k))))

put_sent_fits : (ch : Channel) (s : Option Record) → ChannelFits ch → SendingFits s → ChannelFits (put_sent ch s)
put_sent_fits ch None f k = f
put_sent_fits ch (Some r) f k = put_fits ch (Recorded r) f k

carried_fits : (job : Job) (t place outputs : ℕ) (cargo : Cargo) (ch : Channel) → ChannelFits ch → cargo_fits cargo ≡ true
    → ChannelFits (carried job t place outputs cargo ch)
carried_fits job t place outputs Barrier ch f k = put_fits ch Barrier f k
carried_fits job t place outputs (Recorded r) ch f k = put_sent_fits ch (sent_by job t place outputs r) f (sent_fits _ _ _ place outputs r k)

put_on_fits : (job : Job) (t : ℕ) (cargo : Cargo) (c : ℕ) (ch : Channel) → ChannelFits ch → cargo_fits cargo ≡ true → ChannelFits (put_on job t cargo c ch)
unfolding put_on
put_on_fits job t cargo c ch f k = cond_has ChannelFits (is_output job t c) (λ _. carried_fits job t _ _ cargo ch f k) (λ _. f)

-- ---- the fit, place by place
module _ (job : Job) where
  pub record ChannelPlace (c : ℕ) (ch : Channel) : Type 0 where
    pub fits : ChannelFits ch
    pub unused : job.channels ≤ c → ch.count ≡ 0

  pub record TotalsPlace (t : ℕ) (x : Totals) : Type 0 where
    pub fits : t < job.tasks → TotalsFit job t x
    pub unused : job.tasks ≤ t → x ≡ no_totals

  abbrev pub MarkPlace : ℕ → Bool → Type 0
  MarkPlace c mark = job.channels ≤ c → mark ≡ false

  pub record StoredPlace (t n : ℕ) : Type 0 where
    pub few : n ≤ 1
    pub unused : job.tasks ≤ t → n ≡ 0

  pub record WaitPlace (t n : ℕ) : Type 0 where
    pub few : n ≤ 1
    pub source : t < job.tasks → 0 < n → is_source job t ≡ true
    pub unused : job.tasks ≤ t → n ≡ 0

  pub record Placed (run : Run) : Type 0 where
    pub channels : (c : ℕ) → c < 32 → ChannelPlace c (channel_at run c)
    pub marked : (c : ℕ) → c < 32 → MarkPlace c (flag_at run.marked c)
    pub waiting : (t : ℕ) → t < 16 → WaitPlace t (count_at run.waiting t)
    pub live : (t : ℕ) → t < 16 → TotalsPlace t (totals_at run.live t)
    pub half : (t : ℕ) → t < 16 → TotalsPlace t (totals_at run.half t)
    pub stored : (t : ℕ) → t < 16 → StoredPlace t (count_at run.stored t)
    pub last : (t : ℕ) → t < 16 → TotalsPlace t (totals_at run.last t)
    pub under_way : run.under_way ≤ 1

  none_fit : (t : ℕ) → TotalsFit job t no_totals
  none_fit t = record { counts = omega arith; source = λ e. omega arith; sums = refl; empty = λ e. (refl, refl) }

  pub no_totals_lem : (t : ℕ) → TotalsPlace t no_totals
  no_totals_lem t = record { fits = λ l. none_fit t; unused = λ h. refl }

  no_channel_place : (c : ℕ) → ChannelPlace c no_channel
  no_channel_place c = record { fits = none_fits; unused = λ h. refl }

  pub no_wait : (t : ℕ) → WaitPlace t 0
  no_wait t = record { few = omega arith; source = λ l e. absurd (omega arith); unused = λ h. refl }

  pub none_stored : (t : ℕ) → StoredPlace t 0
  none_stored t = record { few = omega arith; unused = λ h. refl }

  module _ (few : job.tasks ≤ 16) where
    pub fits_of : (run : Run) → Placed run → Fits job run
    fits_of run P = record {
      channels = λ c l. (P.channels c l).fits;
      no_channel = λ c h l. ((P.channels c l).unused h, P.marked c l h);
      no_task = λ t h l. record {
        live = (P.live t l).unused h;
        half = (P.half t l).unused h;
        last = (P.last t l).unused h;
        stored = (P.stored t l).unused h;
        waiting = (P.waiting t l).unused h;
      };
      waits = λ t l e. (P.waiting t (omega arith)).source l e;
      totals = λ t l. record { live = (P.live t (omega arith)).fits l; half = (P.half t (omega arith)).fits l; last = (P.last t (omega arith)).fits l };
      few = P.under_way;
      counts = λ t l. ((P.stored t l).few, (P.waiting t l).few);
    }

    pub placed : (run : Run) → Fits job run → Placed run
    placed run F = record {
      channels = λ c l. record { fits = F.channels c l; unused = λ h. (F.no_channel c h l).0 };
      marked = λ c l h. (F.no_channel c h l).1;
      waiting = λ t l. record { few = (F.counts t l).1; source = λ i e. F.waits t i e; unused = λ h. (F.no_task t h l).waiting };
      live = λ t l. record { fits = λ i. (F.totals t i).live; unused = λ h. (F.no_task t h l).live };
      half = λ t l. record { fits = λ i. (F.totals t i).half; unused = λ h. (F.no_task t h l).half };
      stored = λ t l. record { few = (F.counts t l).0; unused = λ h. (F.no_task t h l).stored };
      last = λ t l. record { fits = λ i. (F.totals t i).last; unused = λ h. (F.no_task t h l).last };
      under_way = F.few;
    }

  -- ---- each part of a step
  -- what is put on outputs
  pub put_all_placed : (t : ℕ) (cargo : Cargo) (held : List Channel) → cargo_fits cargo ≡ true
      → ((c : ℕ) → c < 32 → ChannelPlace c (get_or held c no_channel)) → (c : ℕ) → c < 32 → ChannelPlace c (get_or (put_all job t cargo held) c no_channel)
  unfolding put_all
  put_all_placed t cargo held k h =
      places_have (λ c ch. c < 32 → ChannelPlace c ch) no_channel (put_on job t cargo) held job.channels
      (λ c ch l p i. record { fits = put_on_fits job t cargo c ch (p i).fits k; unused = λ out. absurd (omega arith) })
      (λ c i. no_channel_place c) h

  -- a channel without its head
  taken_place : (c : ℕ) (ch : Channel) → ChannelPlace c ch → ChannelPlace c (without_head ch).channel
  unfolding without_head
  taken_place c ch p = record {
    fits = taken_fits ch p.fits;
    unused = λ h.
        cond_has (λ (a : Taken). a.channel.count ≡ 0) (ltb 8 ch.count) (λ _. p.unused h)
        (λ _. cond_has (λ (a : Taken). a.channel.count ≡ 0) (eqb ch.count 0) (λ _. p.unused h) (λ _. omega (arith, p.unused h)));
  }

  pub rest_placed : (run : Run) (c : ℕ) → Placed run
      → (d : ℕ) → d < 32 → ChannelPlace d (get_or (set run.channels c (without_head (channel_at run c)).channel) d no_channel)
  rest_placed run c P d =
      set_has (λ d ch. d < 32 → ChannelPlace d ch) run.channels c _ no_channel d (λ j. taken_place c (channel_at run c) (P.channels c j))
      (λ j. no_channel_place d) (λ ne. P.channels d)

  pub emptied_placed : (c : ℕ) → ChannelPlace c (get_or (replicate 32 empty_channel) c no_channel)
  emptied_placed c =
      replicate_has (ChannelPlace c) 32 empty_channel no_channel c (record { fits = empty_fits; unused = λ h. refl }) (no_channel_place c)

  pub zeros_placed : (t : ℕ) → TotalsPlace t (get_or (replicate 16 no_totals) t no_totals)
  zeros_placed t = replicate_has (TotalsPlace t) 16 no_totals no_totals t (no_totals_lem t) (no_totals_lem t)

  pub unset : (n i : ℕ) → get_or (replicate n false) i false ≡ false
  unset n i = replicate_has (λ b. b ≡ false) n false false i refl refl

  pub unwaiting : (t : ℕ) → WaitPlace t (get_or (replicate 16 0) t 0)
  unwaiting t = replicate_has (WaitPlace t) 16 0 0 t (no_wait t) (no_wait t)

  pub unstored : (t : ℕ) → StoredPlace t (get_or (replicate 16 0) t 0)
  unstored t = replicate_has (StoredPlace t) 16 0 0 t (none_stored t) (none_stored t)
