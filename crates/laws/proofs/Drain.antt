-- The drain. Of any job, feedback included: a drain that answers 0 leaves nothing, and the totals of direct evaluation
-- (`zero_direct`). Without back channels: with limit enough it answers 0 and takes exactly the steps that were left (`drain_all`),
-- and it never answers 19 (`never_19`, request m).
use mathlib.Core.Path.{◌≡◌, refl, sym, subst}
use mathlib.Core.Bool.{Bool, true, false, cond}
use mathlib.Core.List.{List}
use Prim.Native.Nat.{ℕ, zero, suc, ◌+◌, ◌<◌, ◌≤◌}
use native.Mathlib.Omega.{arith}
use lib.Dec.{eqb}
use lib.ListN.{length, take}
use lib.Seq.{take_all, take-nil}
use borrow.Author.Tests.{eqb-true, eqb-false}
use Rattle.laws.specs.Received.{received}
use Rattle.laws.specs.Sums.{sum_l}
use Rattle.laws.specs.Items.{recs}
use Rattle.laws.specs.Run.{Run, Job, Plain}
use Rattle.laws.specs.Invariant.{Good}
use Rattle.laws.specs.Moves.{Step, Left, left_item, left_part}
use Rattle.laws.specs.Step.{Out, done, ended, refused, Possible, step_f, exec}
use Rattle.laws.specs.StepsLeft.{left}
use Rattle.laws.specs.Drain.{Drained, or_else, drained, go_on, some_left, first_f, drain_f, AllDone, Ends}
use Rattle.laws.specs.Accepted.{NeverFull}
use Rattle.laws.proofs.Balance.{balance_final, balance_same}
use Rattle.laws.proofs.Items.{recs_none}
use Rattle.laws.proofs.Views.{live_ok}
use Rattle.laws.proofs.Moves.{step_good}
use Rattle.laws.proofs.Progress.{progress, left_of, none_of}
use Rattle.laws.proofs.StepsLeft.{step_left, left_none}
use Rattle.laws.proofs.Step.{Ok, step_ok, never_logs, step_possible}
use Rattle.laws.proofs.Grown.{exec_good}

module _ (J : Job) where
  open J use {R, g, M}
  open g use {n, m}
  open M use {Car}

  -- ---- the first possible step is a step, and it is possible where one is
  or_ok : (s : Run R Car) (a b : Out (Run R Car)) → Ok J s a → Ok J s b → Ok J s (or_else a b)
  unfolding Ok
  or_ok s (done x) b p q = p
  or_ok s (ended x) b p q = p
  or_ok s (refused k) b p q = q

  first_ok : (s : Run R Car) → Good J s → (f k : ℕ) → k + f ≤ 64 → Ok J s (first_f J s f k)
  unfolding Ok
  first_ok s K zero k h = tt
  first_ok s K (suc f) k h = or_ok s (step_f J s k) (first_f J s f (suc k))
      (step_ok J s k K.inv.order (omega arith)) (first_ok s K f (suc k) (omega arith))

  or_left : (a b : Out (Run R Car)) → Possible a → Possible (or_else a b)
  unfolding Possible
  or_left (done x) b p = p
  or_left (ended x) b p = p
  or_left (refused k) b p = absurd p

  or_right : (a b : Out (Run R Car)) → Possible b → Possible (or_else a b)
  unfolding Possible
  or_right (done x) b p = tt
  or_right (ended x) b p = tt
  or_right (refused k) b p = p

  first_possible : (s : Run R Car) (f k j : ℕ) → k ≤ j → j < k + f → Possible (step_f J s j)
      → Possible (first_f J s f k)
  first_possible s zero k j a b p = absurd (omega arith)
  first_possible s (suc f) k j a b p = go (eqb k j) refl (first_possible s f (suc k) j)
    where
      go : (x : Bool) → eqb k j ≡ x
          → (suc k ≤ j → j < suc k + f → Possible (step_f J s j) → Possible (first_f J s f (suc k)))
          → Possible (first_f J s (suc f) k)
      go true e ih = or_left (step_f J s k) (first_f J s f (suc k))
          (subst (λ i. Possible (step_f J s i)) (sym (eqb-true k j e)) p)
      go false e ih = let ne : k ≡ j → ⊥ = eqb-false k j e in
          or_right (step_f J s k) (first_f J s f (suc k)) (ih (omega arith) (omega arith) p)

  -- one turn of the drain: something is left and the first possible step is done, or it is not, or nothing is left
  abbrev turn : ℕ → ℕ → Run R Car → Bool → Out (Run R Car) → Drained (Run R Car)
  turn l c s b o = cond b (go_on (λ x. drain_f J l (suc c) x) c s o) (drained 0 c s)

  -- A DRAIN THAT ANSWERS 0 leaves nothing, in any job
  pub drain_zero : (l c : ℕ) (s : Run R Car) → Good J s → (drain_f J l c s).answer ≡ 0 → Ends J (drain_f J l c s)
  unfolding Ok
  drain_zero zero c s K = go (some_left J s) refl
    where
      go : (b : Bool) → some_left J s ≡ b → (cond b (drained 18 c s) (drained 0 c s)).answer ≡ 0
          → Ends J (cond b (drained 18 c s) (drained 0 c s))
      go true q e = absurd (omega (arith, e))
      go false q e = record { nothing = none_of J s q; good = K }
  drain_zero (suc l) c s K =
      go (some_left J s) refl (first_f J s 64 0) (first_ok s K 64 0 (omega arith)) (λ s' K'. drain_zero l (suc c) s' K')
    where
      go : (b : Bool) → some_left J s ≡ b → (o : Out (Run R Car)) → Ok J s o
          → ((s' : Run R Car) → Good J s' → (drain_f J l (suc c) s').answer ≡ 0 → Ends J (drain_f J l (suc c) s'))
          → (turn l c s b o).answer ≡ 0 → Ends J (turn l c s b o)
      go true q (done s') k ih e = ih s' (step_good J s s' K k) e
      go true q (ended s') k ih e = ih s' (step_good J s s' K k) e
      go true q (refused a) k ih e = absurd (omega (arith, e))
      go false q o k ih e = record { nothing = none_of J s q; good = K }

  module _ (P : Plain J) (hn : n ≤ 16) (hm : m ≤ 32) (nf : NeverFull J) where
    first_progress : (s : Run R Car) → Good J s → Left J s → Possible (first_f J s 64 0)
    first_progress s K z =
        let p = progress J P s K z in
        let q = step_possible J s p.0 hn hm (λ d ld. never_logs J P s K.inv d ld) (nf s K.inv) p.1 in
        first_possible s 64 0 q.0 (omega arith) (omega (arith, q.1)) q.2

    -- A DRAIN WITH LIMIT ENOUGH answers 0, and its steps are those that were left
    pub drain_all : (l c : ℕ) (s : Run R Car) → Good J s → left J s ≤ l → AllDone J c s (drain_f J l c s)
    unfolding Ok Possible
    drain_all zero c s K h = go (some_left J s) refl
      where
        go : (b : Bool) → some_left J s ≡ b → AllDone J c s (cond b (drained 18 c s) (drained 0 c s))
        go true q = let p = progress J P s K (left_of J s q) in absurd (omega (arith, step_left J s p.0 K p.1))
        go false q = record { zero_answer = refl; steps_done = omega arith; none_left = none_of J s q; still_good = K }
    drain_all (suc l) c s K h =
        go (some_left J s) refl (first_f J s 64 0) (first_ok s K 64 0 (omega arith)) (first_progress s K)
        (λ s' K' h'. drain_all l (suc c) s' K' h')
      where
        next : (s' : Run R Car) → Step J s s'
            → ((s' : Run R Car) → Good J s' → left J s' ≤ l → AllDone J (suc c) s' (drain_f J l (suc c) s'))
            → AllDone J c s (drain_f J l (suc c) s')
        next s' p ih =
            let e : left J s ≡ suc (left J s') = step_left J s s' K p in
            let d = ih s' (step_good J s s' K p) (omega arith) in
            record {
              zero_answer = d.zero_answer;
              steps_done = omega (arith, d.steps_done);
              none_left = d.none_left;
              still_good = d.still_good;
            }

        go : (b : Bool) → some_left J s ≡ b → (o : Out (Run R Car)) → Ok J s o → (Left J s → Possible o)
            → ((s' : Run R Car) → Good J s' → left J s' ≤ l → AllDone J (suc c) s' (drain_f J l (suc c) s'))
            → AllDone J c s (turn l c s b o)
        go true q (done s') k p ih = next s' k ih
        go true q (ended s') k p ih = next s' k ih
        go true q (refused a) k p ih = absurd (p (left_of J s q))
        go false q o k p ih = record {
          zero_answer = refl;
          steps_done = omega (arith, left_none J s K (none_of J s q));
          none_left = none_of J s q;
          still_good = K;
        }

    -- REQUEST m: 19 is never met, whatever the limit
    pub never_19 : (l c : ℕ) (s : Run R Car) → Good J s → (drain_f J l c s).answer ≡ 19 → ⊥
    unfolding Ok Possible
    never_19 zero c s K = go (some_left J s)
      where
        go : (b : Bool) → (cond b (drained 18 c s) (drained 0 c s)).answer ≡ 19 → ⊥
        go true e = omega (arith, e)
        go false e = omega (arith, e)
    never_19 (suc l) c s K =
        go (some_left J s) refl (first_f J s 64 0) (first_ok s K 64 0 (omega arith)) (first_progress s K)
        (λ s' K'. never_19 l (suc c) s' K')
      where
        go : (b : Bool) → some_left J s ≡ b → (o : Out (Run R Car)) → Ok J s o → (Left J s → Possible o)
            → ((s' : Run R Car) → Good J s' → (drain_f J l (suc c) s').answer ≡ 19 → ⊥)
            → (turn l c s b o).answer ≡ 19 → ⊥
        go true q (done s') k p ih e = ih s' (step_good J s s' K k) e
        go true q (ended s') k p ih e = ih s' (step_good J s s' K k) e
        go true q (refused a) k p ih e = absurd (p (left_of J s q))
        go false q o k p ih e = omega (arith, e)

module _ (J : Job) where
  open J use {R, g, G, M, φ, src, part, no_part}
  open g use {n, depth}
  open M use {Car}

  -- nothing left: the live totals are direct evaluation's over everything
  pub none_left_direct : (s : Run R Car) → Good J s → ¬ Left J s → (u : ℕ) → u < n
      → s.live u ≡ sum_l M φ (received g depth part u)
  none_left_direct s K h u lu =
      balance_final g G M φ u lu (s.live u) (λ c. recs (s.chan c)) part
      (balance_same g G M φ u lu (s.live u) (s.live u) (λ c. recs (s.chan c)) (λ c. recs (s.chan c))
      (λ t. take (s.off t) (part t)) part (live_ok J s K.inv u lu) refl (λ c l. refl)
      (λ t l. sym (all_read t l (src t) refl)))
      (λ c l. recs_none (s.chan c) (λ z. h (left_item c l z)))
    where
      all_read : (t : ℕ) → t < n → (b : Bool) → src t ≡ b → take (s.off t) (part t) ≡ part t
      all_read t l true e = let z : s.off t < length (part t) → ⊥ = λ k. h (left_part t l e k) in
          take_all (s.off t) (part t) (omega arith)
      all_read t l false e = rw (no_part t e) (take-nil (s.off t))

module _ (J : Job) (some_task : 0 < J.g.n) where
  open J use {R, g, M, φ, part}
  open g use {n, m, depth}
  open M use {Car}

  -- DEMAND 3, last part: any steps from a good run, then a drain with limit enough: every total is direct evaluation's
  pub drained_direct : Plain J → n ≤ 16 → m ≤ 32 → NeverFull J → (ks : List ℕ) (l : ℕ) (s₀ : Run R Car)
      → Good J s₀ → left J (exec J ks s₀) ≤ l → (u : ℕ) → u < n
      → (drain_f J l 0 (exec J ks s₀)).run.live u ≡ sum_l M φ (received g depth part u)
  drained_direct P hn hm nf ks l s₀ K h u lu =
      let d = drain_all J P hn hm nf l 0 (exec J ks s₀) (exec_good J some_task ks s₀ K) h in
      none_left_direct J _ d.still_good d.none_left u lu

  -- of any job, with back channels too: a drain that answers 0 leaves the totals of direct evaluation
  pub zero_direct : (ks : List ℕ) (l : ℕ) (s₀ : Run R Car) → Good J s₀ → (drain_f J l 0 (exec J ks s₀)).answer ≡ 0
      → (u : ℕ) → u < n
      → (drain_f J l 0 (exec J ks s₀)).run.live u ≡ sum_l M φ (received g depth part u)
  zero_direct ks l s₀ K e u lu =
      let d = drain_zero J l 0 (exec J ks s₀) (exec_good J some_task ks s₀ K) e in
      none_left_direct J _ d.good d.nothing u lu
