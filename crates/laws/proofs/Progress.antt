-- No deadlock, in a job without back channels: where something is left, a step is possible. Among the tasks that have stored
-- nothing of what is under way and have something to do, one of the greatest rank can step: its outputs lead to tasks that have
-- nothing to do, so they are empty. `some_left`, which the drain computes, says exactly whether something is left.
use mathlib.Core.Path.{◌≡◌, refl, sym, ap, ◌∙◌}
use mathlib.Core.Bool.{Bool, true, false, true≢false, Bool-discrete}
use mathlib.Core.List.{List, [], ◌∷◌}
use mathlib.Core.Logic.{◌⊎◌, inl, inr}
use Prim.Native.Nat.{ℕ, zero, suc, ◌+◌, ◌<◌, ◌≤◌}
use native.Mathlib.Decide.{dec_le, dec_lt, ℕ_discrete}
use native.Mathlib.Omega.{arith}
use lib.Dec.{ltb}
use lib.ListN.{length}
use borrow.Author.Tests.{lt-ltb, le-ltb, ltb-true}
use Rattle.laws.specs.Below.{both, either, any_n}
use Rattle.laws.specs.Items.{Item, barrier, rec, bars}
use Rattle.laws.specs.Run.{Run, Job, Plain, blocked, read_s, deliver_s, mark_s, store_s}
use Rattle.laws.specs.Invariant.{AwaitsAt, Behind, Good}
use Rattle.laws.specs.Moves.{settle, Room, Step, read, deliver, marks, completes, sends_bar, Left, left_snap, left_item}
use Rattle.laws.specs.Moves.{left_part, left_wait}
use Rattle.laws.specs.Drain.{some_left}
use Rattle.laws.proofs.Below.{both_true, both_of, either_true, either_l, either_r, any_true, any_of}
use Rattle.laws.proofs.Items.{bars_le}
use Rattle.laws.proofs.Parts.{next}
use Rattle.laws.proofs.Search.{and_dec, find, top}

module _ (J : Job) where
  open J use {R, g, G, M, src, part, back}
  open g use {n, m, from, to}
  open M use {Car}

  module _ (P : Plain J) (s : Run R Car) (K : Good J s) where
    open P.ranked use {rank, rank_lt, rank_up}

    -- t has something to do
    HasIn : ℕ → ℕ → Type 0
    HasIn t d = (to d ≡ t) × ((blocked J s d ≡ false) × (0 < length (s.chan d)))

    data Busy (t : ℕ) : Type 0 where
      has_in : (d : ℕ) → d < m → HasIn t d → Busy t
      waits : src t ≡ true → 0 < s.wait t → Busy t
      unread : src t ≡ true → s.off t < length (part t) → Busy t

    -- of those that have stored nothing of what is under way
    Cand : ℕ → Type 0
    Cand t = (s.stored t ≡ 0) × Busy t

    busy_dec : (t : ℕ) → Dec (Busy t)
    unfolding HasIn
    busy_dec t = go
        (find m (HasIn t)
        (λ d. and_dec (ℕ_discrete (to d) t)
        (and_dec (Bool-discrete (blocked J s d) false) (dec_lt 0 (length (s.chan d))))))
        (Bool-discrete (src t) true) (dec_lt 0 (s.wait t)) (dec_lt (s.off t) (length (part t)))
      where
        go : Dec ((d : ℕ) × (d < m) × HasIn t d) → Dec (src t ≡ true) → Dec (0 < s.wait t)
            → Dec (s.off t < length (part t)) → Dec (Busy t)
        go (yes p) sr w o = yes (has_in p.0 p.1 p.2)
        go (no h) (yes e) (yes w) o = yes (waits e w)
        go (no h) (yes e) (no w) (yes o) = yes (unread e o)
        go (no h) (yes e) (no w) (no o) =
            no (elim [ has_in d l p ↦ h (d, l, p) | waits e w' ↦ w w' | unread e o' ↦ o o' ])
        go (no h) (no e) w o = no (elim [ has_in d l p ↦ h (d, l, p) | waits e' w' ↦ e e' | unread e' o' ↦ e e' ])

    -- a task with something to do and room for what it sends can step
    act : (t : ℕ) → t < n → Busy t → Room J s t → (s' : Run R Car) × Step J s s'
    unfolding HasIn
    act t lt (waits sr w) rm = (settle J (store_s J s t), sends_bar t lt sr w rm)
    act t lt (unread sr o) rm = let q = next (s.off t) (part t) o in
        (read_s J s t q.0, read t q.0 lt sr o q.1 rm)
    act t lt (has_in d ld p) rm = go (s.chan d) refl
      where
        out : Room J s (to d)
        out c l e = rm c l (e ∙ p.0)

        bars_in : (rest : List (Item R)) → s.chan d ≡ barrier ∷ rest
            → Dec ((c : ℕ) × (c < m) × ((to c ≡ to d) × ((mark_s J s d).gone c ≤ s.stored (to d))))
            → (s' : Run R Car) × Step J s s'
        bars_in rest e (yes q) = (
          mark_s J s d,
          marks d rest ld (P.no_back d ld) p.1.0 e q.0 q.1 q.2.0 (P.no_back q.0
              q.1) q.2.1,
        )
        bars_in rest e (no h) = (
          settle J (store_s J (mark_s J s d) (to d)),
          completes d rest ld (P.no_back d ld) p.1.0 e (λ c l q b. sure c l q) out,
        )
          where
            sure : (c : ℕ) → c < m → to c ≡ to d → s.stored (to d) < (mark_s J s d).gone c
            sure c l q = let k : (mark_s J s d).gone c ≤ s.stored (to d) → ⊥ = λ z. h (c, l, (q, z)) in omega arith

        go : (xs : List (Item R)) → s.chan d ≡ xs → (s' : Run R Car) × Step J s s'
        go [] e = absurd (omega (arith, p.1.1, ap length e))
        go (rec r ∷ rest) e = (deliver_s J s d r, deliver d r rest ld p.1.0 e out)
        go (barrier ∷ rest) e = bars_in rest e
            (find m (λ c. (to c ≡ to d) × ((mark_s J s d).gone c ≤ s.stored (to d)))
            (λ c. and_dec (ℕ_discrete (to c) (to d)) (dec_le ((mark_s J s d).gone c) (s.stored (to d)))))

    -- while a snapshot is under way some task that has not stored the oldest has something to do
    descend : (k t : ℕ) → t < n → rank t < k → s.stored t ≡ 0 → 0 < s.going → (v : ℕ) × (v < n) × Cand v
    unfolding HasIn Cand
    descend zero t lt h un on = absurd (omega arith)
    descend (suc k) t lt h un on = go (src t) refl (descend k)
      where
        inner : AwaitsAt J s t
            → ((v : ℕ) → v < n → rank v < k → s.stored v ≡ 0 → 0 < s.going → (v : ℕ) × (v < n) × Cand v)
            → (v : ℕ) × (v < n) × Cand v
        inner p ih = by (s.stored (from p.0)) refl
          where
            aw : s.gone p.0 ≤ s.stored t
            aw = p.4

            by : (k : ℕ) → s.stored (from p.0) ≡ k → (v : ℕ) × (v < n) × Cand v
            by (suc k) e = (
              t,
              lt,
              (
                un,
                has_in p.0 p.1 (
                  p.2,
                  (
                    le-ltb (s.stored (to p.0)) (s.gone p.0) (omega (arith, ap s.stored p.2)),
                    omega (arith, bars_le (s.chan p.0), K.inv.order.bar_eq p.0 p.1),
                  ),
                ),
              ),
            )
            by zero e = ih (from p.0) (G.from_ok p.0 p.1)
                (omega (arith, rank_up p.0 p.1 p.3, ap rank p.2)) e on

        go : (b : Bool) → src t ≡ b
            → ((v : ℕ) → v < n → rank v < k → s.stored v ≡ 0 → 0 < s.going → (v : ℕ) × (v < n) × Cand v)
            → (v : ℕ) × (v < n) × Cand v
        go true e ih = (t, lt, (un, waits e (omega (arith, K.inv.order.wait_eq t lt e))))
        go false e ih = inner (K.awaits t lt e) ih

    -- the oldest is missing at some task
    missing : Behind J 0 s → (t : ℕ) × (t < n) × (s.stored t ≡ 0)
    missing (inl p) = let h = p.2 in (p.0, p.1, omega arith)
    missing (inr p) = absurd (true≢false (sym p.2 ∙ P.no_back p.0 p.1))

    snap_cand : 0 < s.going → (v : ℕ) × (v < n) × Cand v
    snap_cand on = let p = missing (K.unfin on) in descend n p.0 p.1 (rank_lt p.0 p.1) p.2 on

    -- with none under way no task has stored and no channel is blocked
    some_cand : (k : ℕ) → s.going ≡ k → Left J s → (v : ℕ) × (v < n) × Cand v
    unfolding Cand HasIn
    some_cand (suc k) e lf = snap_cand (omega arith)
    some_cand zero e (left_snap on) = snap_cand on
    some_cand zero e (left_item c l h) = (
      to c,
      G.to_ok c l,
      (
        omega (arith, K.inv.order.idle (to c) (G.to_ok c l)),
        has_in c l (
          refl,
          (
            le-ltb (s.stored (to c)) (s.gone c)
                (omega (arith, K.inv.order.bar_eq c l, K.inv.order.idle (from c) (G.from_ok c l))),
            h,
          ),
        ),
      ),
    )
    some_cand zero e (left_part t l sr o) = (t, l, (omega (arith, K.inv.order.idle t l), unread sr o))
    some_cand zero e (left_wait t l sr w) = (t, l, (omega (arith, K.inv.order.idle t l), waits sr w))

    -- NO DEADLOCK
    pub progress : Left J s → (s' : Run R Car) × Step J s s'
    unfolding Cand HasIn
    progress lf = let q = some_cand s.going refl lf in
        at_top
        (top n rank rank_lt Cand (λ t. and_dec (ℕ_discrete (s.stored t) 0) (busy_dec t)) n q.0 q.1 q.2
        (omega arith))
      where
        at_top : (t : ℕ) × (t < n) × Cand t × ((v : ℕ) → v < n → rank t < rank v → Cand v → ⊥)
            → (s' : Run R Car) × Step J s s'
        at_top (t, lt, (un, b), no_more) = act t lt b room
          where
            room : Room J s t
            room c l e =
                let z : s.stored (from c) ≡ 0 = ap s.stored e ∙ un in
                let eq : bars (s.chan c) + s.gone c ≡ s.stored (from c) = K.inv.order.bar_eq c l in
                let fw : s.stored (to c) ≤ s.gone c = K.inv.order.fwd c l (P.no_back c l) in
                let up : rank t < rank (to c) = omega (arith, rank_up c l (P.no_back c l), ap rank e) in
                let empty : 0 < length (s.chan c) → ⊥ = λ h. no_more (to c) (G.to_ok c l) up
                (omega arith, has_in c l (refl, (le-ltb (s.stored (to c)) (s.gone c) (omega arith), h))) in
                omega arith

  -- ---- what the drain computes, `some_left`, is `Left`
  pub left_of : (s : Run R Car) → some_left J s ≡ true → Left J s
  left_of s h = go (either_true (ltb 0 s.going) _ h)
    where
      at_part : (t : ℕ) × (t < n) × (both (src t) (ltb (s.off t) (length (part t))) ≡ true) → Left J s
      at_part p = let q = both_true (src p.0) (ltb (s.off p.0) (length (part p.0))) p.2 in
          left_part p.0 p.1 q.0 (ltb-true (s.off p.0) (length (part p.0)) q.1)

      at_wait : (t : ℕ) × (t < n) × (both (src t) (ltb 0 (s.wait t)) ≡ true) → Left J s
      at_wait p = let q = both_true (src p.0) (ltb 0 (s.wait p.0)) p.2 in
          left_wait p.0 p.1 q.0 (ltb-true 0 (s.wait p.0) q.1)

      source : (any_n n (λ t. both (src t) (ltb (s.off t) (length (part t)))) ≡ true)
          ⊎ (any_n n (λ t. both (src t) (ltb 0 (s.wait t))) ≡ true)
          → Left J s
      source (inl e) = at_part (any_true n (λ t. both (src t) (ltb (s.off t) (length (part t)))) e)
      source (inr e) = at_wait (any_true n (λ t. both (src t) (ltb 0 (s.wait t))) e)

      held : (any_n m (λ c. ltb 0 (length (s.chan c))) ≡ true)
          ⊎
          (either (any_n n (λ t. both (src t) (ltb (s.off t) (length (part t)))))
          (any_n n (λ t. both (src t) (ltb 0 (s.wait t)))) ≡ true)
          → Left J s
      held (inl e) = let p = any_true m (λ c. ltb 0 (length (s.chan c))) e in
          left_item p.0 p.1 (ltb-true 0 (length (s.chan p.0)) p.2)
      held (inr e) = source (either_true (any_n n (λ t. both (src t) (ltb (s.off t) (length (part t))))) _ e)

      go : (ltb 0 s.going ≡ true)
          ⊎
          (either (any_n m (λ c. ltb 0 (length (s.chan c))))
          (either (any_n n (λ t. both (src t) (ltb (s.off t) (length (part t)))))
          (any_n n (λ t. both (src t) (ltb 0 (s.wait t))))) ≡ true)
          → Left J s
      go (inl e) = left_snap (ltb-true 0 s.going e)
      go (inr e) = held (either_true (any_n m (λ c. ltb 0 (length (s.chan c)))) _ e)

  pub left_is : (s : Run R Car) → Left J s → some_left J s ≡ true
  left_is s (left_snap h) = either_l (ltb 0 s.going) _ (lt-ltb 0 s.going h)
  left_is s (left_item c l h) = either_r (ltb 0 s.going) _ (either_l (any_n m (λ c. ltb 0 (length (s.chan c)))) _
      (any_of m (λ c. ltb 0 (length (s.chan c))) c l (lt-ltb 0 (length (s.chan c)) h)))
  left_is s (left_part t l e h) = either_r (ltb 0 s.going) _ (either_r (any_n m (λ c. ltb 0 (length (s.chan c)))) _
      (either_l (any_n n (λ t. both (src t) (ltb (s.off t) (length (part t))))) _
      (any_of n (λ t. both (src t) (ltb (s.off t) (length (part t)))) t l
      (both_of (src t) (ltb (s.off t) (length (part t))) e (lt-ltb (s.off t) (length (part t)) h)))))
  left_is s (left_wait t l e h) = either_r (ltb 0 s.going) _ (either_r (any_n m (λ c. ltb 0 (length (s.chan c)))) _
      (either_r (any_n n (λ t. both (src t) (ltb (s.off t) (length (part t))))) _
      (any_of n (λ t. both (src t) (ltb 0 (s.wait t))) t l (both_of (src t) (ltb 0 (s.wait t)) e (lt-ltb 0 (s.wait t) h)))))

  pub none_of : (s : Run R Car) → some_left J s ≡ false → ¬ Left J s
  none_of s e h = true≢false (sym (left_is s h) ∙ e)
