-- THE FIT, EXACTLY: the test that the code computes answers true exactly when every clause of `Fits` holds (`fits_exact`), for any run
-- whatever.
use mathlib.Core.Path.{◌≡◌, refl, sym, ap, ap₂, ◌∙◌, subst}
use mathlib.Core.Bool.{Bool, true, false, cond, not, ◌&&◌, ◌||◌, true≢false, false≢true}
use mathlib.Core.Logic.{◌↔◌}
use Prim.Native.Nat.{ℕ, ◌<◌, ◌≤◌}
use native.Mathlib.Omega.{arith}
use borrow.Author.Tests.{ltb-true, ltb-false, leb-true, le-leb, lt-ltb, le-ltb, eqb-true, eqb-false, eq-eqb, ne_eqb, not-true}
use lib.Dec.{eqb, ltb, leb}
use lib.IntN.{ℤ, pos, negsuc, nat_abs}
use lib.ListN.{get_or}
use lib.Signed.{le_z}
use Rattle.tally.specs.declared.Totals.{Totals}
use Rattle.tally.specs.Totals.{no_totals}
use Rattle.channel.specs.declared.Channel.{Channel}
use Rattle.channel.specs.Channels.{barrier}
use Rattle.job.specs.declared.Job.{Job}
use Rattle.job.specs.Tests.{every}
use Rattle.job.specs.Jobs.{JobSized, b_of, is_source}
use Rattle.job.proofs.Bools.{both_true}
use Rattle.job.proofs.Ints.{within_nat_abs}
use Rattle.job.proofs.Tests.{every_all, all_every}
use Rattle.run.specs.declared.Run.{Run}
use Rattle.run.specs.Fit.{channel_at, totals_at, flag_at, count_at, cargo_fits, sum_fits, is_zero, ChannelFits, TotalsFit, NothingHeld, Fits}
use Rattle.run.specs.Fit.{channel_fits, place_fits, channels_fit, totals_fit, limit_of, counts_fit, task_fits, tasks_fit, run_fits}

-- ---- a joined test, and a test of a case
pub and_of : (a b : Bool) → a ≡ true → b ≡ true → a && b ≡ true
and_of a b p q = ap₂ ◌&&◌ p q

-- "not x or y" is "x only with y"
only : (x y : Bool) → not x || y ≡ true → x ≡ true → y ≡ true
only true y e p = e
only false y e p = absurd (false≢true p)

of_only : (x y : Bool) → (x ≡ true → y ≡ true) → not x || y ≡ true
of_only true y f = f refl
of_only false y f = refl

-- "x or y" is "y where not x"
else : (x y : Bool) → x || y ≡ true → x ≡ false → y ≡ true
else true y e p = absurd (true≢false p)
else false y e p = e

of_else : (x y : Bool) → (x ≡ false → y ≡ true) → x || y ≡ true
of_else true y f = refl
of_else false y f = f refl

not_of : (b : Bool) → b ≡ false → not b ≡ true
not_of b e = ap not e

-- ---- the counts of one task
record Counts (task source : Bool) (stored waiting : ℕ) : Type 0 where
  stored_few : stored ≤ 1
  waiting_few : waiting ≤ 1
  no_stored : task ≡ false → stored ≡ 0
  no_waiting : task ≡ false → waiting ≡ 0
  waits : 0 < waiting → source ≡ true

of_counts : (task source : Bool) (stored waiting : ℕ) → counts_fit task source stored waiting ≡ true → Counts task source stored waiting
of_counts task source stored waiting e =
    let a = both_true (leb stored 1 && leb waiting 1 && (task || eqb stored 0)) (eqb waiting 0 || task && source) e in
    let b = both_true (leb stored 1 && leb waiting 1) (task || eqb stored 0) a.0 in
    let c = both_true (leb stored 1) (leb waiting 1) b.0 in
    record {
      stored_few = leb-true stored 1 c.0;
      waiting_few = leb-true waiting 1 c.1;
      no_stored = λ out. eqb-true stored 0 (else task (eqb stored 0) b.1 out);
      no_waiting = λ out. none (eqb waiting 0) refl task source out a.1;
      waits = λ w.
          (both_true task source
          (else (eqb waiting 0) (task && source) a.1 (ne_eqb waiting 0 (omega arith)))).1;
    }
  where
    none : (b : Bool) → eqb waiting 0 ≡ b → (task source : Bool) → task ≡ false → b || task && source ≡ true → waiting ≡ 0
    none true q task source out e = eqb-true waiting 0 q
    none false q true source out e = absurd (true≢false out)
    none false q false source out e = absurd (false≢true e)

counts_are : (task source : Bool) (stored waiting : ℕ) → Counts task source stored waiting → counts_fit task source stored waiting ≡ true
counts_are task source stored waiting C =
    and_of _ _ (and_of _ _ (and_of _ _ (le-leb stored 1 C.stored_few) (le-leb waiting 1 C.waiting_few))
    (of_else task (eqb stored 0) (λ out. eq-eqb stored 0 (C.no_stored out))))
    (of_else (eqb waiting 0) (task && source) (λ some.
    let w : waiting ≡ 0 → ⊥ = eqb-false waiting 0 some in
    and_of _ _ (there task refl w) (C.waits (omega arith))))
  where
    there : (b : Bool) → task ≡ b → (waiting ≡ 0 → ⊥) → b ≡ true
    there true e w = refl
    there false e w = absurd (w (C.no_waiting e))

-- ---- channels
pub channel_fits_lem : (ch : Channel) → channel_fits ch ≡ true → ChannelFits ch
unfolding channel_fits
channel_fits_lem ch e =
    let x = both_true (leb ch.count 8) (every (λ j. cargo_fits (get_or ch.items j barrier).cargo) ch.count) e in
    record { room = leb-true ch.count 8 x.0; cylinders = every_all _ ch.count x.1 }

fits_channel : (ch : Channel) → ChannelFits ch → channel_fits ch ≡ true
unfolding channel_fits
fits_channel ch f = and_of _ _ (le-leb ch.count 8 f.room) (all_every _ ch.count f.cylinders)

-- ---- totals
zero_is : (z : ℤ) → is_zero z ≡ true → z ≡ pos 0
zero_is (pos n) e = ap pos (omega (arith, within_nat_abs (pos n) 0 e))
zero_is (negsuc n) e = absurd (false≢true e)

is_zero_lem : (z : ℤ) → z ≡ pos 0 → is_zero z ≡ true
is_zero_lem z e = ap is_zero e

pub record UpTo (limit : ℕ) (x : Totals) : Type 0 where
  pub counts : x.count ≤ limit
  pub sums : sum_fits x.sum x.count ≡ true
  pub empty : x.count ≡ 0 → (x.least ≡ pos 0) × (x.greatest ≡ pos 0)

totals_up_to : (x : Totals) (limit : ℕ) → totals_fit x limit ≡ true → UpTo limit x
unfolding totals_fit
totals_up_to x limit e =
    let zeros = is_zero x.least && is_zero x.greatest in
    let a = both_true (leb x.count limit) (sum_fits x.sum x.count && (not (eqb x.count 0) || zeros)) e in
    let b = both_true (sum_fits x.sum x.count) (not (eqb x.count 0) || zeros) a.1 in
    record {
      counts = leb-true x.count limit a.0;
      sums = b.0;
      empty = λ q.
          let z = both_true (is_zero x.least) (is_zero x.greatest) (only (eqb x.count 0) zeros b.1 (eq-eqb x.count 0 q)) in
          (zero_is x.least z.0, zero_is x.greatest z.1);
    }

up_to_totals : (x : Totals) (limit : ℕ) → UpTo limit x → totals_fit x limit ≡ true
unfolding totals_fit
up_to_totals x limit u =
    and_of _ _ (le-leb x.count limit u.counts)
    (and_of _ _ u.sums
    (of_only (eqb x.count 0) _ (λ q. let z = u.empty (eqb-true x.count 0 q) in
    and_of _ _ (is_zero_lem x.least z.0) (is_zero_lem x.greatest z.1))))

-- with the limit 0 all four are 0
sum_none : (s : ℤ) → sum_fits s 0 ≡ true → s ≡ pos 0
sum_none (pos n) e = ap pos (omega (arith, leb-true n 0 (both_true (le_z (pos 0) (pos n)) (le_z (pos n) (pos 0)) e).1))
sum_none (negsuc n) e = absurd (false≢true e)

all_zero : (x : Totals) → UpTo 0 x → x ≡ no_totals
all_zero x u =
    let n : x.count ≡ 0 = omega (arith, u.counts) in
    let z = u.empty n in
    let s : x.sum ≡ pos 0 = sum_none x.sum (ap (sum_fits x.sum) (sym n) ∙ u.sums) in
    λ i. record { count = n i; sum = s i; least = z.0 i; greatest = z.1 i }

zero_all : UpTo 0 no_totals
zero_all = record { counts = omega arith; sums = refl; empty = λ e. (refl, refl) }

module _ (job : Job) (Z : JobSized job) where
  source_low : (t : ℕ) → t < job.tasks → is_source job t ≡ true → nat_abs (b_of job t) ≤ 4096
  source_low t l e = within_nat_abs (b_of job t) 4096 (Z.part_length t l e)

  pub limit_low : (t : ℕ) → limit_of job t ≤ 1048576
  unfolding limit_of
  limit_low t = go (ltb t job.tasks) refl (is_source job t) refl
    where
      go : (a : Bool) → ltb t job.tasks ≡ a → (b : Bool) → is_source job t ≡ b → cond a (cond b (nat_abs (b_of job t)) 1048576) 0 ≤ 1048576
      go true p true q = omega (arith, source_low t (ltb-true t job.tasks p) q)
      go true p false q = omega arith
      go false p b q = omega arith

  limit_past : (t : ℕ) → job.tasks ≤ t → limit_of job t ≡ 0
  unfolding limit_of
  limit_past t h = simp (le-ltb t job.tasks h)

  limit_source : (t : ℕ) → t < job.tasks → is_source job t ≡ true → limit_of job t ≡ nat_abs (b_of job t)
  unfolding limit_of
  limit_source t l e = simp (lt-ltb t job.tasks l, e)

  limit_other : (t : ℕ) → t < job.tasks → is_source job t ≡ false → limit_of job t ≡ 1048576
  unfolding limit_of
  limit_other t l e = simp (lt-ltb t job.tasks l, e)

  totals_of_lem : (t : ℕ) (x : Totals) → t < job.tasks → UpTo (limit_of job t) x → TotalsFit job t x
  totals_of_lem t x l u = record {
    counts = omega (arith, u.counts, limit_low t);
    source = λ e. omega (arith, u.counts, limit_source t l e);
    sums = u.sums;
    empty = u.empty;
  }

  of_totals : (t : ℕ) (x : Totals) → t < job.tasks → TotalsFit job t x → UpTo (limit_of job t) x
  of_totals t x l f = record { counts = go (is_source job t) refl; sums = f.sums; empty = f.empty }
    where
      go : (b : Bool) → is_source job t ≡ b → x.count ≤ limit_of job t
      go true e = omega (arith, f.source e, limit_source t l e)
      go false e = omega (arith, f.counts, limit_other t l e)

  -- ---- a task
  record Parts (run : Run) (t : ℕ) : Type 0 where
    counts : counts_fit (ltb t job.tasks) (is_source job t) (count_at run.stored t) (count_at run.waiting t) ≡ true
    live : UpTo (limit_of job t) (totals_at run.live t)
    half : UpTo (limit_of job t) (totals_at run.half t)
    last : UpTo (limit_of job t) (totals_at run.last t)

  parts : (run : Run) (t : ℕ) → task_fits job run t ≡ true → Parts run t
  unfolding task_fits
  parts run t e =
      let a = both_true _ (totals_fit (totals_at run.last t) (limit_of job t)) e in
      let b = both_true _ (totals_fit (totals_at run.half t) (limit_of job t)) a.0 in
      let c = both_true _ (totals_fit (totals_at run.live t) (limit_of job t)) b.0 in
      record { counts = c.0; live = totals_up_to _ _ c.1; half = totals_up_to _ _ b.1; last = totals_up_to _ _ a.1 }

  of_parts : (run : Run) (t : ℕ) → Parts run t → task_fits job run t ≡ true
  unfolding task_fits
  of_parts run t p =
      and_of _ _ (and_of _ _ (and_of _ _ p.counts (up_to_totals _ _ p.live)) (up_to_totals _ _ p.half))
      (up_to_totals _ _ p.last)

  module _ (run : Run) where
    -- ---- from the test to the clauses
    module _ (e : run_fits job run ≡ true) where
      three : (channels_fit run job.channels && tasks_fit job run ≡ true) × (leb run.under_way 1 ≡ true)
      unfolding run_fits
      three = both_true (channels_fit run job.channels && tasks_fit job run) (leb run.under_way 1) e

      two : (channels_fit run job.channels ≡ true) × (tasks_fit job run ≡ true)
      two = both_true (channels_fit run job.channels) (tasks_fit job run) three.0

      place : (c : ℕ) → c < 32 → place_fits (channel_at run c) (flag_at run.marked c) c job.channels ≡ true
      unfolding run_fits channels_fit
      place = every_all _ 32 two.0

      task : (t : ℕ) → t < 16 → Parts run t
      unfolding run_fits tasks_fit
      task t l = parts run t (every_all (task_fits job run) 16 two.1 t l)

      channel_of : (c : ℕ) → c < 32 → ChannelFits (channel_at run c)
      unfolding place_fits
      channel_of c l = channel_fits_lem (channel_at run c) (both_true _ _ (place c l)).0

      unused : (c : ℕ) → job.channels ≤ c → c < 32 → ((channel_at run c).count ≡ 0) × (flag_at run.marked c ≡ false)
      unfolding place_fits
      unused c h l =
          let n = eqb (channel_at run c).count 0 in
          let m = not (flag_at run.marked c) in
          let x = both_true n m (else (ltb c job.channels) (n && m) (both_true (channel_fits (channel_at run c)) _ (place c l)).1 (le-ltb c job.channels h)) in
          (eqb-true (channel_at run c).count 0 x.0, not-true (flag_at run.marked c) x.1)

      counts_of : (t : ℕ) → t < 16 → Counts (ltb t job.tasks) (is_source job t) (count_at run.stored t) (count_at run.waiting t)
      counts_of t l = of_counts _ _ _ _ (task t l).counts

      nothing : (t : ℕ) → job.tasks ≤ t → t < 16 → NothingHeld run t
      nothing t h l =
          let p = task t l in
          let f = counts_of t l in
          let out = le-ltb t job.tasks h in
          record {
            live = all_zero _ (subst (λ n. UpTo n (totals_at run.live t)) (limit_past t h) p.live);
            half = all_zero _ (subst (λ n. UpTo n (totals_at run.half t)) (limit_past t h) p.half);
            last = all_zero _ (subst (λ n. UpTo n (totals_at run.last t)) (limit_past t h) p.last);
            stored = f.no_stored out;
            waiting = f.no_waiting out;
          }

      waits_of : (t : ℕ) → t < job.tasks → 0 < count_at run.waiting t → is_source job t ≡ true
      waits_of t l w = (counts_of t (omega (arith, Z.few_tasks))).waits w

      pub clauses : Fits job run
      clauses = record {
        channels = channel_of;
        no_channel = unused;
        no_task = nothing;
        waits = waits_of;
        totals = λ t l.
            let p = task t (omega (arith, Z.few_tasks)) in
            record { live = totals_of_lem t _ l p.live; half = totals_of_lem t _ l p.half; last = totals_of_lem t _ l p.last };
        few = leb-true run.under_way 1 three.1;
        counts = λ t l. ((counts_of t l).stored_few, (counts_of t l).waiting_few);
      }

    -- ---- from the clauses to the test
    module _ (F : Fits job run) where
      of_place : (c : ℕ) → c < 32 → place_fits (channel_at run c) (flag_at run.marked c) c job.channels ≡ true
      unfolding place_fits
      of_place c l =
          and_of _ _ (fits_channel (channel_at run c) (F.channels c l))
          (of_else (ltb c job.channels) _ (λ out.
          let x = F.no_channel c (ltb-false c job.channels out) l in
          and_of _ _ (eq-eqb (channel_at run c).count 0 x.0) (not_of (flag_at run.marked c) x.1)))

      none_up_to : (x : Totals) (t : ℕ) → job.tasks ≤ t → x ≡ no_totals → UpTo (limit_of job t) x
      none_up_to x t h e = subst (λ n. UpTo n x) (sym (limit_past t h)) (subst (UpTo 0) (sym e) zero_all)

      of_task : (t : ℕ) → t < 16 → Parts run t
      of_task t l = go (ltb t job.tasks) refl
        where
          counts_ok : counts_fit (ltb t job.tasks) (is_source job t) (count_at run.stored t) (count_at run.waiting t) ≡ true
          counts_ok = counts_are _ _ _ _ (record {
            stored_few = (F.counts t l).0;
            waiting_few = (F.counts t l).1;
            no_stored = λ out. (F.no_task t (ltb-false t job.tasks out) l).stored;
            no_waiting = λ out. (F.no_task t (ltb-false t job.tasks out) l).waiting;
            waits = λ w. source w (ltb t job.tasks) refl;
          })
            where
              source : 0 < count_at run.waiting t → (b : Bool) → ltb t job.tasks ≡ b → is_source job t ≡ true
              source w true e = F.waits t (ltb-true t job.tasks e) w
              source w false e = absurd (omega (arith, (F.no_task t (ltb-false t job.tasks e) l).waiting))

          go : (b : Bool) → ltb t job.tasks ≡ b → Parts run t
          go true e =
              let i = ltb-true t job.tasks e in
              let x = F.totals t i in
              record {
                counts = counts_ok;
                live = of_totals t _ i x.live;
                half = of_totals t _ i x.half;
                last = of_totals t _ i x.last;
              }
          go false e =
              let h = ltb-false t job.tasks e in
              let x = F.no_task t h l in
              record {
                counts = counts_ok;
                live = none_up_to _ t h x.live;
                half = none_up_to _ t h x.half;
                last = none_up_to _ t h x.last;
              }

      pub of_clauses : run_fits job run ≡ true
      unfolding run_fits channels_fit tasks_fit
      of_clauses =
          and_of _ _ (and_of _ _ (all_every _ 32 of_place) (all_every (task_fits job run) 16 (λ t l. of_parts run t (of_task t l))))
          (le-leb run.under_way 1 F.few)

    -- ANSWER 16, both ways
    pub fits_exact : (run_fits job run ≡ true) ↔ Fits job run
    fits_exact = (clauses, of_clauses)
