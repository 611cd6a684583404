-- The account of steps: those done and those left, over a list of steps without cuts, make up those left at first and 1 + sources +
-- channels for each snapshot begun (`account`, `drain_account`). At first they are those of direct evaluation (`start_left`,
-- `fresh_left`).
use mathlib.Core.Path.{◌≡◌, refl, sym, ◌∙◌}
use mathlib.Core.Bool.{Bool, true, false, cond, true≢false}
use mathlib.Core.List.{List, [], ◌∷◌}
use Prim.Native.Nat.{ℕ, ◌+◌, ◌*◌, ◌<◌, ◌≤◌}
use native.Mathlib.Omega.{arith}
use lib.Dec.{eqb, ltb}
use lib.ListN.{take}
use borrow.Author.Tests.{ne_eqb, le-ltb, ltb-true, ltb-false}
use Rattle.laws.specs.Below.{bit}
use Rattle.laws.specs.Sums.{sum_n, nat_mon}
use Rattle.laws.specs.Value.{worth, flow}
use Rattle.laws.specs.Run.{Run, Job, Plain, begin_s, start_s, fresh_s}
use Rattle.laws.specs.Invariant.{Good}
use Rattle.laws.specs.Step.{Out, done, ended, refused, after, if_done, step_f, exec, done_in, begun, begun_in, NoCut}
use Rattle.laws.specs.StepsLeft.{steps, counts, work, waits_at, awaits_at, barriers, left, sources}
use Rattle.laws.specs.Drain.{drain_f}
use Rattle.laws.specs.Accepted.{NeverFull}
use Rattle.laws.proofs.Below.{cond_same}
use Rattle.laws.proofs.Sums.{sum_ext, sum_op, sum_unit, sum_ones}
use Rattle.laws.proofs.Value.{sum_received}
use Rattle.laws.proofs.Flow.{worth-nil, worth_split}
use Rattle.laws.proofs.StepsLeft.{worth_steps, step_left}
use Rattle.laws.proofs.Step.{Ok, step_ok}
use Rattle.laws.proofs.Grown.{any_good, exec_good}
use Rattle.laws.proofs.Drain.{drain_all}

module _ (J : Job) (some_task : 0 < J.g.n) where
  open J use {R, g, G, M, src, part, cap}
  open g use {n, m, from, to, depth}
  open M use {Car, unit as ε}

  -- a snapshot begun, whatever else is under way, comes to 1 + sources + channels
  pub begin_left : (s : Run R Car) → Good J s → left J (begin_s J s) ≡ left J s + (sources J + m)
  unfolding left work barriers
  begin_left s K =
      let c : sum_n nat_mon n (waits_at J (begin_s J s)) ≡ sum_n nat_mon n (waits_at J s) + sources J =
      sum_ext nat_mon n (waits_at J (begin_s J s)) (λ t. waits_at J s t + bit (src t))
      (λ t l. more (src t) (s.wait t))
      ∙ sum_op nat_mon n (waits_at J s) (λ t. bit (src t)) in
      let d : sum_n nat_mon m (awaits_at J (begin_s J s)) ≡ sum_n nat_mon m (awaits_at J s) + sum_n nat_mon m (λ c. 1) =
      sum_ext nat_mon m (awaits_at J (begin_s J s)) (λ c. awaits_at J s c + 1)
      (λ c l. omega (arith, K.inv.order.bar_eq c l, K.inv.order.idle (from c) (G.from_ok c l)))
      ∙ sum_op nat_mon m (awaits_at J s) (λ c. 1) in
      omega (arith, sum_ones m)
    where
      more : (b : Bool) (x : ℕ) → cond b (x + bit b) 0 ≡ cond b x 0 + bit b
      more true x = refl
      more false x = refl

  -- the steps of what is put in are what every task receives, counted
  steps_counts : (E : ℕ → List R) → worth nat_mon n (steps g) E ≡ counts g E
  steps_counts E =
      worth_steps g n (λ v. v) E ∙ sum_ext nat_mon n _ _ (λ u l. sym (sum_received g nat_mon G depth (λ r. 1) E u l))

  -- the steps left at first: those of everything without those of what is read
  pub start_left : (tot : ℕ → Car) (offs : ℕ → ℕ)
      → left J (start_s J tot offs) + counts g (λ t. take (offs t) (part t)) ≡ counts g part
  unfolding left work barriers
  start_left tot offs =
      let s = start_s J tot offs in
      let a : flow nat_mon g (steps g) (λ c. []) ≡ 0 =
      worth-nil nat_mon m (λ c. steps g (to c)) (λ c. []) (λ c l. refl) in
      let b : sum_n nat_mon n (waits_at J s) ≡ 0 =
      sum_ext nat_mon n (waits_at J s) (λ t. 0) (λ t l. cond_same (src t) 0) ∙ sum_unit nat_mon n in
      let c : sum_n nat_mon m (awaits_at J s) ≡ 0 =
      sum_ext nat_mon m (awaits_at J s) (λ c. 0) (λ c l. omega arith) ∙ sum_unit nat_mon m in
      omega (
        arith,
        worth_split nat_mon n (steps g) offs part,
        steps_counts part,
        steps_counts (λ t. take (offs t) (part t)),
      )

  pub fresh_left : left J (fresh_s J) ≡ counts g part
  fresh_left =
      let a : counts g (λ t. take 0 (part t)) ≡ 0 = sym (steps_counts (λ t. take 0 (part t)))
      ∙ worth-nil nat_mon n (steps g) (λ t. take 0 (part t)) (λ t l. refl) in
      omega (arith, start_left (λ v. ε) (λ v. 0))

  -- one step: what is done and left
  one_account : (s : Run R Car) (k : ℕ) → Good J s → (k ≡ 65 → ⊥)
      → if_done (step_f J s k) 1 + left J (after s (step_f J s k))
      ≡ left J s + begun J k (step_f J s k) * (1 + (sources J + m))
  unfolding Ok
  one_account s k K nc = go (ltb k 64) refl
    where
      early : (b : Bool) → b ≡ false → (o : Out (Run R Car)) → Ok J s o
          → if_done o 1 + left J (after s o) ≡ left J s + cond b (if_done o 1) 0 * (1 + (sources J + m))
      early true e o p = absurd (true≢false e)
      early false e (done s') p = omega (arith, step_left J s s' K p)
      early false e (ended s') p = omega (arith, step_left J s s' K p)
      early false e (refused a) p = omega arith

      begins : Bool → Out (Run R Car)
      begins on = cond on (done (begin_s J s)) (refused 15)

      late : (on : Bool) → ltb s.going cap ≡ on
          → if_done (begins on) 1 + left J (after s (begins on)) ≡ left J s + if_done (begins on) 1 * (1 + (sources J + m))
      late false e = omega arith
      late true e = omega (arith, begin_left s K)

      beyond : 64 ≤ k → (b : Bool) → eqb k 64 ≡ b
          → if_done (step_f J s k) 1 + left J (after s (step_f J s k))
          ≡ left J s + begun J k (step_f J s k) * (1 + (sources J + m))
      beyond l true q =
          rw (le-ltb k 32 (omega arith), le-ltb k 48 (omega arith), le-ltb k 64 l, q) (late (ltb s.going cap) refl)
      beyond l false q =
          rw (le-ltb k 32 (omega arith), le-ltb k 48 (omega arith), le-ltb k 64 l, q, ne_eqb k 65 nc) (omega arith)

      go : (b : Bool) → ltb k 64 ≡ b
          → if_done (step_f J s k) 1 + left J (after s (step_f J s k))
          ≡ left J s + begun J k (step_f J s k) * (1 + (sources J + m))
      go true e = let l : k < 64 = ltb-true k 64 e in
          early (eqb k 64) (ne_eqb k 64 (omega arith)) (step_f J s k) (step_ok J s k K.inv.order l)
      go false e = beyond (ltb-false k 64 e) (eqb k 64) refl

  -- THE FORMULA: steps done, and steps left, make up those of direct evaluation and those of the snapshots begun
  pub account : (ks : List ℕ) (s : Run R Car) → Good J s → NoCut ks
      → done_in J ks s + left J (exec J ks s) ≡ left J s + begun_in J ks s * (1 + (sources J + m))
  account [] s K nc = omega arith
  account (k ∷ ks) s K nc = omega (
    arith,
    one_account s k K nc.0,
    account ks (after s (step_f J s k)) (any_good J some_task s k K) nc.1,
  )

  pub drain_account : Plain J → n ≤ 16 → m ≤ 32 → NeverFull J → (ks : List ℕ) (l : ℕ) (s₀ : Run R Car) → Good J s₀
      → NoCut ks → left J (exec J ks s₀) ≤ l
      → done_in J ks s₀ + (drain_f J l 0 (exec J ks s₀)).count ≡ left J s₀ + begun_in J ks s₀ * (1 + (sources J + m))
  drain_account P hn hm nf ks l s₀ K nc h =
      let d = drain_all J P hn hm nf l 0 (exec J ks s₀) (exec_good J some_task ks s₀ K) h in
      omega (arith, d.steps_done, account ks s₀ K nc)
