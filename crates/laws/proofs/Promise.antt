-- THE PROMISES for an accepted job, in one place, for whatever is grown by a list of steps from a good run: a fresh one, or one
-- begun from totals that are direct evaluation's (request k).
--   1. its last complete snapshot is direct evaluation's at its offsets, and these are the offsets that an onlooker noted
--   2. a drain with the limit 67,108,864 answers 0 and leaves direct evaluation's totals
--   3. without cuts, the number of steps is known beforehand
--   4. 17 and 19 are never met (request m)
use mathlib.Core.Path.{◌≡◌, ◌∙◌}
use mathlib.Core.List.{List}
use Prim.Native.Nat.{ℕ, ◌+◌, ◌*◌, ◌<◌, ◌≤◌}
use native.Mathlib.Omega.{arith}
use lib.ListN.{length}
use borrow.Author.Tests.{ne_eqb}
use Rattle.laws.specs.Received.{flat, received}
use Rattle.laws.specs.Sums.{sum_n, sum_l, nat_mon, counted}
use Rattle.laws.specs.Run.{Run, Job, start_s, fresh_s}
use Rattle.laws.specs.Invariant.{direct_at, Direct, Good}
use Rattle.laws.specs.Step.{refused, step_f, exec, done_in, begun_in, NoCut}
use Rattle.laws.specs.StepsLeft.{left, sources}
use Rattle.laws.specs.Drain.{drain_f}
use Rattle.laws.specs.Onlooker.{Notes, notes, Agrees}
use Rattle.laws.specs.Accepted.{worst, Accepted, NeverFull}
use Rattle.laws.proofs.Moves.{start_good}
use Rattle.laws.proofs.Step.{never_17}
use Rattle.laws.proofs.Grown.{fresh_good, exec_good, snapshot_direct}
use Rattle.laws.proofs.Drain.{drain_all, never_19, drained_direct}
use Rattle.laws.proofs.Account.{fresh_left, drain_account}
use Rattle.laws.proofs.Bound.{received_sent, limit_enough, never_full}
use Rattle.laws.proofs.Offsets.{offsets_noted}

module _ (J : Job) (A : Accepted J) where
  open J use {R, g, G, M, φ, part}
  open g use {n, m, from, to, sends, depth}
  open M use {Car}

  le_self : (t : ℕ) → length (part t) ≤ length (part t)
  le_self t = omega arith

  -- where a record is to be delivered its task's count is below the bound
  pub not_full : NeverFull J
  not_full s I d r rest ld hd =
      A.full_is (s.live (to d)) ∙ ne_eqb (A.count.map (s.live (to d))) 1_048_576
      (let a : A.count.map (s.live (to d)) < worst g (λ t. length (part t)) depth (to d) =
      never_full J A.count A.counts_one (λ t. length (part t)) le_self A.sends_one s I d ld r rest hd in
      omega (arith, A.worst_ok (to d) (G.to_ok d ld)))

  -- THE PROMISES, for what is grown from any good run: a fresh one, or one of request k
  module _ (s₀ : Run R Car) (K : Good J s₀) where
    grown_good : (ks : List ℕ) → Good J (exec J ks s₀)
    grown_good ks = exec_good J A.some_task ks s₀ K

    enough : (ks : List ℕ) → left J (exec J ks s₀) ≤ 67_108_864
    enough ks = limit_enough J A.count A.counts_one (λ t. length (part t)) le_self A.sends_one
        A.few_tasks A.few_channels A.few_under_way A.worst_ok (exec J ks s₀) (grown_good ks)

    -- 1. after any steps, done or refused, cuts among them, the last complete snapshot is direct evaluation's at its offsets,
    pub snapshot_promise : (ks : List ℕ) (u : ℕ) → u < n
        → (exec J ks s₀).last u ≡ direct_at J (exec J ks s₀).last_off u
    snapshot_promise ks u lu = snapshot_direct J A.some_task A.plain ks s₀ K u lu

    -- and its offsets are those that an onlooker noted when the sources sent its barrier
    pub offset_promise : (h : Notes) → Agrees J s₀ h → (ks : List ℕ) → Agrees J (exec J ks s₀) (notes J ks s₀ h)
    offset_promise h a ks = offsets_noted J A.some_task ks s₀ h K a

    -- 2. a drain with the limit 67,108,864 or more answers 0,
    pub drain_promise : (ks : List ℕ) (l : ℕ) → 67_108_864 ≤ l → (drain_f J l 0 (exec J ks s₀)).answer ≡ 0
    drain_promise ks l h = (drain_all J A.plain A.few_tasks A.few_channels not_full l 0
        (exec J ks s₀) (grown_good ks) (omega (arith, enough ks))).zero_answer

    -- and leaves direct evaluation's totals
    pub totals_promise : (ks : List ℕ) (l : ℕ) → 67_108_864 ≤ l → (u : ℕ) → u < n
        → (drain_f J l 0 (exec J ks s₀)).run.live u ≡ sum_l M φ (received g depth part u)
    totals_promise ks l h u lu = drained_direct J A.some_task A.plain A.few_tasks
        A.few_channels not_full ks l s₀ K (omega (arith, enough ks)) u lu

    -- 3. without cuts: steps done and the drain's are those left at first, and 1 + sources + channels for each snapshot begun
    pub steps_promise : (ks : List ℕ) (l : ℕ) → NoCut ks → 67_108_864 ≤ l
        → done_in J ks s₀ + (drain_f J l 0 (exec J ks s₀)).count ≡ left J s₀ + begun_in J ks s₀ * (1 + (sources J + m))
    steps_promise ks l nc h = drain_account J A.some_task A.plain A.few_tasks
        A.few_channels not_full ks l s₀ K nc (omega (arith, enough ks))

    -- 4. 17 and 19 stay silent (request m)
    pub silent_17 : (ks : List ℕ) (k : ℕ) → step_f J (exec J ks s₀) k ≡ refused 17 → ⊥
    silent_17 ks k = never_17 J (exec J ks s₀) (not_full (exec J ks s₀) (grown_good ks).inv) k

    pub silent_19 : (ks : List ℕ) (l : ℕ) → (drain_f J l 0 (exec J ks s₀)).answer ≡ 19 → ⊥
    silent_19 ks l = never_19 J A.plain A.few_tasks A.few_channels not_full l 0
        (exec J ks s₀) (grown_good ks)

  -- those left at first of a fresh run are the records read and the records sent over all channels
  pub fresh_steps : left J (fresh_s J)
      ≡ sum_n nat_mon n (λ t. counted (part t))
      + sum_n nat_mon m (λ c. counted (flat (sends c) (received g depth part (from c))))
  fresh_steps = fresh_left J A.some_task ∙ received_sent g G part

  -- a fresh run and one of request k are good
  pub fresh_is_good : Good J (fresh_s J)
  fresh_is_good = fresh_good J A.some_task

  pub carried_is_good : (tot : ℕ → Car) (offs : ℕ → ℕ) → Direct J tot offs → Good J (start_s J tot offs)
  carried_is_good = start_good J
