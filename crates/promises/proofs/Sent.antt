-- Statement 5, conservation: what the onlooker counts on a channel of a run is what the onlooker of `laws` counts on the run that it is
-- read as (`put_is`, `take_is`, `records_is`).
use mathlib.Core.Path.{◌≡◌, refl, sym, ap, ap₂, ◌∙◌}
use mathlib.Core.Bool.{Bool, true, false, cond, false≢true}
use mathlib.Core.List.{List, [], ◌∷◌, ◌++◌, append-nil}
use Prim.Native.Nat.{ℕ, zero, suc, ◌+◌, ◌-◌, ◌<◌, ◌≤◌}
use native.Mathlib.Omega.{arith}
use borrow.Author.Tests.{eqb-true, lt-ltb, le-ltb}
use lib.Dec.{eqb, ltb}
use lib.IntN.{nat_abs}
use lib.ListN.{length, take, drop}
use Rattle.laws.specs.Received.{keep, flat}
use Rattle.laws.specs.Below.{tab}
use Rattle.laws.specs.Items.{Item, barrier, rec, recs}
use Rattle.laws.specs.Run.{Run as LawRun}
use Rattle.laws.specs.Totals.{tot_mon}
use Rattle.laws.specs.Step.{Out, done, ended, refused, if_done, step_f, exec}
use Rattle.laws.specs.Onlooker.{onto, head_rec, put_now, taken_now}
use Rattle.laws.specs.Onlooker.{sent_on as law_sent, taken_on as law_taken, held as law_held}
use Rattle.laws.proofs.Below.{cond_same}
use Rattle.laws.proofs.Did.{Did, did_not, did_deliver, did_mark, did_complete, did_return, did_read, did_send, did_begin, did_cut, did}
use Rattle.laws.proofs.History.{sent_taken}
use Rattle.tally.specs.declared.Record.{Record}
use Rattle.channel.specs.declared.Cargo.{Cargo}
use Rattle.channel.specs.declared.Cargo.TheVariants.{Barrier, Record as Recorded}
use Rattle.channel.specs.declared.Item.{Item as ChannelItem}
use Rattle.channel.specs.Channels.{held}
use Rattle.job.specs.Columns.{Columns, record_at}
use Rattle.job.specs.Jobs.{job_of, a_of, b_of, from_of, to_of, is_output}
use Rattle.job.specs.Graph.{over_channel}
use Rattle.job.specs.Rules.{job_answer}
use Rattle.run.specs.declared.Run.{Run}
use Rattle.run.specs.Runs.{fresh_run}
use Rattle.run.specs.Fit.{channel_at}
use Rattle.step.specs.Step.{next_record, offset_of}
use Rattle.lists.specs.Lists.{is_done}
use Rattle.station.specs.Entries.{step_on}
use Rattle.promises.specs.Grown.{grown, as_record, records_of, brought, brought_to, sent_on, delivered_from, records_in}
use Rattle.promises.specs.Promises.{Conserved}
use Rattle.promises.proofs.Reading.{items_of, end_is, source_of}
use Rattle.promises.proofs.Along.{was_done}
use Rattle.promises.proofs.Grows.{the_job, law_job, at_run, Goes, fresh_law, said_at, goes_fresh, exec_at, counts_at}

-- ---- what a channel holds
records_is : (xs : List ChannelItem) → length (records_of xs) ≡ length (recs (items_of xs))
records_is [] = refl
records_is (x ∷ xs) = go x.cargo (records_is xs)
  where
    go : (cargo : Cargo) → length (records_of xs) ≡ length (recs (items_of xs))
        → length (as_record cargo ++ records_of xs) ≡ length (recs (items_of (record { cargo = cargo } ∷ xs)))
    go Barrier e = e
    go (Recorded r) e = ap suc e

-- ---- what a source reads next stands first in the rest of its part
drop_first : {A : Type 0} (i n : ℕ) (f : ℕ → A) (r : A) (rest : List A) → drop i (tab n f) ≡ r ∷ rest → f i ≡ r
drop_first zero zero f r rest e = absurd (let z : ◌≡◌ {A = ℕ} 0 1 = cc in omega arith)
drop_first zero (suc n) f r rest e = cc
drop_first (suc i) zero f r rest e = absurd (let z : ◌≡◌ {A = ℕ} 0 1 = cc in omega arith)
drop_first (suc i) (suc n) f r rest e = drop_first i n (λ j. f (suc j)) r rest e

-- a number that counts only where the step was done
counts_done : {A : Type 0} (o : Out A) (b : Bool) (x y : ℕ) → was_done o ≡ b → (was_done o ≡ true → x ≡ y) → cond b x 0 ≡ if_done o y
counts_done (done s) b x y e h = sym (ap (λ b. cond b x 0) e) ∙ h refl
counts_done (ended s) b x y e h = sym (ap (λ b. cond b x 0) e) ∙ h refl
counts_done (refused a) b x y e h = sym (ap (λ b. cond b x 0) e)

module _ (J : Columns) (ok : job_answer J ≡ 0) (c : ℕ) (lc : c < (job_of J).channels) where
  abbrev puts : Run → ℕ → ℕ
  puts run k = length (keep (is_output (job_of J) (brought_to J k) c) (flat (over_channel (job_of J) c) (brought J run k)))

  abbrev takes : Run → ℕ → ℕ
  takes run k = cond (eqb k c) (length (records_of (take 1 (held (channel_at run c))))) 0

  head_is : (xs : List ChannelItem) → records_of (take 1 xs) ≡ head_rec (law_job J ok) (items_of xs)
  head_is [] = refl
  head_is (x ∷ xs) = go x.cargo
    where
      go : (cargo : Cargo) → as_record cargo ++ [] ≡ head_rec (law_job J ok) (items_of (record { cargo = cargo } ∷ xs))
      go Barrier = refl
      go (Recorded r) = refl

  -- what task t puts on c when it takes in the first of these, of which there is at most one
  onto_is : (t u : ℕ) (r : Record) → t ≡ u
      → length (keep (is_output (job_of J) t c) (flat (over_channel (job_of J) c) (r ∷ []))) ≡ onto (law_job J ok) u c (r ∷ [])
  onto_is t u r e =
      ap₂ (λ b (xs : List Record). length (keep b xs)) (ap₂ eqb (sym (end_is (job_of J) (from_of (job_of J)) c lc)) e)
      (append-nil (over_channel (job_of J) c r))

  module _ (run : Run) (k : ℕ) where
    early_puts : k < 32 → k < (job_of J).channels → puts run k ≡ put_now (law_job J ok) (at_run J ok run) k c
    early_puts l lk = rw (lt-ltb k 32 l) (go (held (channel_at run k)))
      where
        none : (b : Bool) → length (keep {A = Record} b []) ≡ 0
        none true = refl
        none false = refl

        one : (rs : List Record) → length rs ≤ 1
            → length (keep (is_output (job_of J) (to_of (job_of J) k) c) (flat (over_channel (job_of J) c) rs))
            ≡ onto (law_job J ok) ((law_job J ok).g.to k) c rs
        one [] h = none (is_output (job_of J) (to_of (job_of J) k) c)
        one (r ∷ []) h = onto_is (to_of (job_of J) k) ((law_job J ok).g.to k) r (sym (end_is (job_of J) (to_of (job_of J)) k lk))
        one (r ∷ q ∷ rs) h = absurd (omega arith)

        few : (xs : List (Item Record)) → length (head_rec (law_job J ok) xs) ≤ 1
        few [] = omega arith
        few (barrier ∷ xs) = omega arith
        few (rec r ∷ xs) = omega arith

        go : (xs : List ChannelItem)
            → length (keep (is_output (job_of J) (to_of (job_of J) k) c) (flat (over_channel (job_of J) c) (records_of (take 1 xs))))
            ≡ onto (law_job J ok) ((law_job J ok).g.to k) c (head_rec (law_job J ok) (items_of xs))
        go xs =
            ap (λ rs. length (keep (is_output (job_of J) (to_of (job_of J) k) c) (flat (over_channel (job_of J) c) rs))) (head_is xs)
            ∙ one (head_rec (law_job J ok) (items_of xs)) (few (items_of xs))

    -- a source's next record
    read_puts : (t : ℕ) (r : Record) (rest : List Record) → k ≡ 32 + t → k < 48 → source_of (job_of J) t ≡ true
        → drop ((at_run J ok run).off t) ((law_job J ok).part t) ≡ r ∷ rest → puts run k ≡ put_now (law_job J ok) (at_run J ok run) k c
    unfolding next_record
    read_puts t r rest kt l src hd =
        let back : k - 32 ≡ t = omega arith in
        let next : ℕ → Record = λ i. record_at J.cylinders J.values (nat_abs (a_of (job_of J) t) + i) in
        let first : next (offset_of run t) ≡ r =
        drop_first (offset_of run t) (nat_abs (b_of (job_of J) t)) next r rest
        (sym (ap (λ b. drop (cond b (offset_of run t) 0) (cond b (tab (nat_abs (b_of (job_of J) t)) next) [])) src) ∙ hd) in
        rw (le-ltb k 32 (omega arith), lt-ltb k 48 l, back, hd)
        (ap (λ (x : Record). length (keep (is_output (job_of J) t c) (flat (over_channel (job_of J) c) (x ∷ [])))) first ∙ onto_is t t r refl)

    late_puts : 48 ≤ k → puts run k ≡ put_now (law_job J ok) (at_run J ok run) k c
    late_puts h = rw (le-ltb k 32 (omega arith), le-ltb k 48 h) (none (is_output (job_of J) (k - 32) c))
      where
        none : (b : Bool) → length (keep {A = Record} b []) ≡ 0
        none true = refl
        none false = refl

    did_puts : (o : Out (LawRun Record tot_mon.Car)) → Did (law_job J ok) (at_run J ok run) k o → was_done o ≡ true
        → puts run k ≡ put_now (law_job J ok) (at_run J ok run) k c
    did_puts o (did_not a w) e = absurd (false≢true e)
    did_puts o (did_deliver r rest l ld mk hd rm) e = early_puts l ld
    did_puts o (did_mark rest l ld bd mk hd d lc tc bc mc) e = early_puts l ld
    did_puts o (did_complete rest l ld bd mk hd all rm w) e = early_puts l ld
    did_puts o (did_return rest l ld bd mk hd w) e = early_puts l ld
    did_puts o (did_read t r rest kt l lt sr hd rm) e = read_puts t r rest kt l sr hd
    did_puts o (did_send t kt l lt sr wt rm w) e = late_puts (omega arith)
    did_puts o (did_begin q w) e = late_puts (omega arith)
    did_puts o (did_cut q) e = late_puts (omega arith)

    -- what is delivered from c
    takes_is : takes run k ≡ taken_now (law_job J ok) (at_run J ok run) k c
    takes_is = go (eqb k c) refl
      where
        go : (b : Bool) → eqb k c ≡ b → takes run k ≡ taken_now (law_job J ok) (at_run J ok run) k c
        go true e =
            let same : k ≡ c = eqb-true k c e in
            rw (e, lt-ltb k 32 (omega (arith, (the_job J ok).sends.sized.few_channels)), same)
            (ap length (head_is (held (channel_at run c))))
        go false e = rw e (sym (cond_same (ltb k 32) 0))

  put_is : (run : Run) (k : ℕ) → Goes J ok run
      → cond (is_done (step_on J run k).answer) (puts run k) 0
      ≡ if_done (step_f (law_job J ok) (at_run J ok run) k) (put_now (law_job J ok) (at_run J ok run) k c)
  put_is run k A =
      counts_done (step_f (law_job J ok) (at_run J ok run) k) _ _ _ (said_at J ok run A k).0
      (did_puts run k (step_f (law_job J ok) (at_run J ok run) k) (did (law_job J ok) (at_run J ok run) k))

  take_is : (run : Run) (k : ℕ) → Goes J ok run
      → cond (is_done (step_on J run k).answer) (takes run k) 0
      ≡ if_done (step_f (law_job J ok) (at_run J ok run) k) (taken_now (law_job J ok) (at_run J ok run) k c)
  take_is run k A =
      counts_done (step_f (law_job J ok) (at_run J ok run) k) _ _ _ (said_at J ok run A k).0 (λ e. takes_is run k)

-- CONSERVATION
pub conserved : (J : Columns) → job_answer J ≡ 0 → (ks : List ℕ) → Conserved J ks
conserved J ok ks nc c lc =
    let law = law_job J ok in
    let s₀ = at_run J ok fresh_run in
    let sent : sent_on J ks c ≡ law_sent law ks s₀ c =
    counts_at J ok _ (λ s k. if_done (step_f law s k) (put_now law s k c)) (λ ks s. law_sent law ks s c)
    (λ s. refl) (λ s k ks. refl) (put_is J ok c lc) fresh_run ks (goes_fresh J ok) in
    let taken : delivered_from J ks c ≡ law_taken law ks s₀ c =
    counts_at J ok _ (λ s k. if_done (step_f law s k) (taken_now law s k c)) (λ ks s. law_taken law ks s c)
    (λ s. refl) (λ s k ks. refl) (take_is J ok c lc) fresh_run ks (goes_fresh J ok) in
    let here : law_held law (exec law ks s₀) c ≡ records_in (grown J ks) c =
    ap (λ s. law_held law s c) (exec_at J ok fresh_run ks (goes_fresh J ok)) ∙ sym (records_is (held (channel_at (grown J ks) c))) in
    let none : law_held law s₀ c ≡ 0 = ap (λ s. law_held law s c) (fresh_law J ok) in
    omega (arith, sent_taken law ks s₀ nc c lc)
