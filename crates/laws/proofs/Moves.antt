-- Every step keeps what a grown run has. `step_fits`: the order of barriers and request h's rule of fit, for any run that fits.
-- `step_inv`: the law of conservation in every view. `step_awaits`: every task awaits an input. `step_good`: all three together.
-- Snapshots become complete one at a time, in the order begun: a step makes no more than the oldest complete.
use mathlib.Core.Path.{◌≡◌, refl, sym, ap, ◌∙◌}
use mathlib.Core.Bool.{Bool, true, false, cond, true≢false}
use mathlib.Core.List.{List, ◌∷◌}
use mathlib.Core.Logic.{◌⊎◌, inl, inr}
use Prim.Native.Nat.{ℕ, zero, suc, ◌+◌, ◌<◌, ◌≤◌}
use native.Mathlib.Omega.{arith}
use lib.Dec.{eqb, ltb}
use borrow.Author.Tests.{ne_eqb, eqb-true, eqb-false, ltb-true, ltb-false}
use Rattle.laws.specs.Below.{bit, all_n}
use Rattle.laws.specs.Items.{Item, barrier, bars}
use Rattle.laws.specs.Run.{Run, Job, blocked, mark_s, store_s, begin_s, finish_s, cut_s, start_s}
use Rattle.laws.specs.Invariant.{Direct, Order, Inv, AwaitsAt, Awaits, Behind, Fits, Good}
use Rattle.laws.specs.Moves.{whole, AllMarked, Step, read, deliver, marks, completes, returns, sends_bar}
use Rattle.laws.proofs.Below.{bit_one, all_true, all_false, both_false, both_true}
use Rattle.laws.proofs.Order.{read_order, deliver_order, mark_order, store_order, begin_order, finish_order, cut_order}
use Rattle.laws.proofs.Views.{start_inv, read_inv, mark_inv, store_inv, begin_inv, finish_inv, cut_inv}
use Rattle.laws.proofs.Deliver.{deliver_inv}

module _ (J : Job) where
  open J use {R, g, G, M, src, back, cap, no_in, some_in}
  open g use {n, m, from, to}
  open M use {Car}

  -- ---- the oldest snapshot is whole, or something of it is missing
  pub whole_st : (s : Run R Car) → whole J s ≡ true → (t : ℕ) → t < n → 0 < s.stored t
  whole_st s h t l =
      ltb-true 0 (s.stored t)
      (all_true n (λ t. ltb 0 (s.stored t)) (both_true (all_n n (λ t. ltb 0 (s.stored t))) _ h).0 t l)

  pub whole_gone : (s : Run R Car) → Order J s → whole J s ≡ true → (c : ℕ) → c < m → 0 < s.gone c
  whole_gone s O h c l =
      go (back c) refl
      (all_true m (λ c. cond (back c) (ltb 0 (s.gone c)) true) (both_true (all_n n (λ t. ltb 0 (s.stored t))) _ h).1 c l)
    where
      go : (b : Bool) → back c ≡ b → cond b (ltb 0 (s.gone c)) true ≡ true → 0 < s.gone c
      go true e q = ltb-true 0 (s.gone c) q
      go false e q = omega (arith, O.fwd c l e, whole_st s h (to c) (G.to_ok c l))

  not_whole : (s : Run R Car) → whole J s ≡ false → Behind J 0 s
  not_whole s h = go (both_false (all_n n (λ t. ltb 0 (s.stored t))) (all_n m (λ c. cond (back c) (ltb 0 (s.gone c)) true)) h)
    where
      at : (c : ℕ) → c < m → (b : Bool) → back c ≡ b → cond b (ltb 0 (s.gone c)) true ≡ false → Behind J 0 s
      at c l true e q = inr (c, l, e, ltb-false 0 (s.gone c) q)
      at c l false e q = absurd (true≢false q)

      go : (all_n n (λ t. ltb 0 (s.stored t)) ≡ false) ⊎ (all_n m (λ c. cond (back c) (ltb 0 (s.gone c)) true) ≡ false)
          → Behind J 0 s
      go (inl e) = let p = all_false n (λ t. ltb 0 (s.stored t)) e in
          inl (p.0, p.1, ltb-false 0 (s.stored p.0) p.2)
      go (inr e) = let p = all_false m (λ c. cond (back c) (ltb 0 (s.gone c)) true) e in
          at p.0 p.1 (back p.0) refl p.2

  -- ---- a task that stores: it has an input, and so is no source; or it is a source, and so has none
  pub not_source : (t c : ℕ) → c < m → to c ≡ t → src t ≡ true → ⊥
  not_source t c l e q = true≢false (sym q ∙ ap src (sym e) ∙ no_in c l)

  -- a barrier in a channel: its from_task has stored more than have been taken from it
  pub bar_more : (s : Run R Car) → Order J s → (d : ℕ) (rest : List (Item R)) → d < m → s.chan d ≡ barrier ∷ rest
      → s.gone d < s.going
  bar_more s O d rest ld hd = omega (arith, O.bar_eq d ld, ap bars hd, O.idle (from d) (G.from_ok d ld))

  pub complete_order : (s : Run R Car) → Order J s → (d : ℕ) (rest : List (Item R)) → d < m → back d ≡ false
      → blocked J s d ≡ false → s.chan d ≡ barrier ∷ rest → AllMarked J s d → Order J (store_s J (mark_s J s d) (to d))
  complete_order s O d rest ld bd mk hd all =
      store_order J (mark_s J s d) (mark_order J s O d rest mk hd) (to d)
      (omega (arith, O.fwd d ld bd, bar_more s O d rest ld hd)) (λ q. absurd (not_source (to d) d ld refl q)) all

  pub send_order : (s : Run R Car) → Order J s → (t : ℕ) → t < n → src t ≡ true → 0 < s.wait t → Order J (store_s J s t)
  send_order s O t lt sr wt =
      store_order J s O t (omega (arith, O.wait_eq t lt sr)) (λ q. wt) (λ c l e b. absurd (not_source t c l e sr))

  -- ---- REQUEST h'S RULE OF FIT is kept
  -- one more is stored or has come back: of the next snapshot something is missing
  next_behind : (s s' : Run R Car) → ((t : ℕ) → s'.stored t ≤ suc (s.stored t))
      → ((c : ℕ) → back c ≡ true → s'.gone c ≤ suc (s.gone c)) → Behind J 0 s → Behind J 1 s'
  next_behind s s' a b (inl p) = let h = p.2 in inl (p.0, p.1, omega (arith, a p.0))
  next_behind s s' a b (inr p) = let h = p.3 in inr (p.0, p.1, p.2, omega (arith, b p.0 p.2))

  settle_fits : (s : Run R Car) → Order J s → s.going ≤ cap → (0 < s.going → Behind J 1 s)
      → (b : Bool) → whole J s ≡ b → Fits J (cond b (finish_s J s) s)
  settle_fits s O few w true e = record {
    order = finish_order J s O (whole_st s e) (whole_gone s O e);
    unfin = λ q. lower (w (omega arith));
    few = omega arith;
  }
    where
      lower : Behind J 1 s → Behind J 0 (finish_s J s)
      lower (inl p) = let h = p.2 in inl (p.0, p.1, omega arith)
      lower (inr p) = let h = p.3 in inr (p.0, p.1, p.2, omega arith)
  settle_fits s O few w false e = record { order = O; unfin = λ q. not_whole s e; few = few }

  pub step_fits : (s s' : Run R Car) → Fits J s → Step J s s' → Fits J s'
  step_fits s s' F (read t r lt sr lo nxt rm) =
      record { order = read_order J s F.order t r; unfin = F.unfin; few = F.few }
  step_fits s s' F (deliver d r rest ld mk hd rm) =
      record { order = deliver_order J s F.order d r rest hd; unfin = F.unfin; few = F.few }
  step_fits s s' F (marks d rest ld bd mk hd c lc tc bc mc) =
      record { order = mark_order J s F.order d rest mk hd; unfin = λ q. same (F.unfin q); few = F.few }
    where
      -- d is no back channel
      same : Behind J 0 s → Behind J 0 (mark_s J s d)
      same (inl p) = inl p
      same (inr p) = inr (
        p.0,
        p.1,
        p.2,
        rw (ne_eqb d p.0 (λ h. true≢false (sym p.2 ∙ ap back (sym h) ∙ bd))) (let h = p.3 in omega arith),
      )
  step_fits s s' F (completes d rest ld bd mk hd all rm) =
      let s₂ = store_s J (mark_s J s d) (to d) in
      settle_fits s₂ (complete_order s F.order d rest ld bd mk hd all) F.few
      (λ q. next_behind s s₂ (λ t. omega (arith, bit_one (eqb t (to d)))) (λ c bc. omega (arith, bit_one (eqb d c))) (F.unfin q))
      (whole J s₂) refl
  step_fits s s' F (returns d rest ld bd mk hd) =
      settle_fits (mark_s J s d) (mark_order J s F.order d rest mk hd) F.few
      (λ q. next_behind s (mark_s J s d) (λ t. omega arith) (λ c bc. omega (arith, bit_one (eqb d c))) (F.unfin q))
      (whole J (mark_s J s d)) refl
  step_fits s s' F (sends_bar t lt sr wt rm) =
      settle_fits (store_s J s t) (send_order s F.order t lt sr wt) F.few
      (λ q. next_behind s (store_s J s t) (λ v. omega (arith, bit_one (eqb v t))) (λ c bc. omega arith) (F.unfin q))
      (whole J (store_s J s t)) refl

  pub begin_fits : 0 < n → (s : Run R Car) → Fits J s → s.going < cap → Fits J (begin_s J s)
  begin_fits some s F h = record { order = begin_order J s F.order; unfin = λ q. go s.going refl; few = h }
    where
      go : (k : ℕ) → s.going ≡ k → Behind J 0 (begin_s J s)
      go zero e = inl (0, some, omega (arith, F.order.idle 0 some))
      go (suc k) e = F.unfin (omega arith)

  pub cut_fits : (s : Run R Car) → Fits J s → Fits J (cut_s J s)
  cut_fits s F = record { order = cut_order J s F.order; unfin = λ e. absurd (omega arith); few = omega arith }

  -- ---- THE INVARIANT is kept
  complete_inv : (s : Run R Car) → Inv J s → (d : ℕ) (rest : List (Item R)) → d < m → back d ≡ false
      → blocked J s d ≡ false → s.chan d ≡ barrier ∷ rest → AllMarked J s d → Inv J (store_s J (mark_s J s d) (to d))
  complete_inv s I d rest ld bd mk hd all =
      store_inv J (mark_s J s d) (mark_inv J s I d rest ld mk hd) (to d) (G.to_ok d ld)
      (omega (arith, I.order.fwd d ld bd, bar_more s I.order d rest ld hd))
      (λ q. absurd (not_source (to d) d ld refl q)) all

  send_inv : (s : Run R Car) → Inv J s → (t : ℕ) → t < n → src t ≡ true → 0 < s.wait t → Inv J (store_s J s t)
  send_inv s I t lt sr wt =
      store_inv J s I t lt (omega (arith, I.order.wait_eq t lt sr)) (λ q. wt) (λ c l e b. absurd (not_source t c l e sr))

  settle_inv : (s : Run R Car) → Inv J s → (b : Bool) → whole J s ≡ b → Inv J (cond b (finish_s J s) s)
  settle_inv s I true e = finish_inv J s I (whole_st s e) (whole_gone s I.order e)
  settle_inv s I false e = I

  pub step_inv : (s s' : Run R Car) → Inv J s → Step J s s' → Inv J s'
  step_inv s s' I (read t r lt sr lo nxt rm) = read_inv J s I t r lt nxt
  step_inv s s' I (deliver d r rest ld mk hd rm) = deliver_inv J s I d r rest ld mk hd
  step_inv s s' I (marks d rest ld bd mk hd c lc tc bc mc) = mark_inv J s I d rest ld mk hd
  step_inv s s' I (completes d rest ld bd mk hd all rm) =
      settle_inv (store_s J (mark_s J s d) (to d)) (complete_inv s I d rest ld bd mk hd all)
      (whole J (store_s J (mark_s J s d) (to d))) refl
  step_inv s s' I (returns d rest ld bd mk hd) =
      settle_inv (mark_s J s d) (mark_inv J s I d rest ld mk hd) (whole J (mark_s J s d)) refl
  step_inv s s' I (sends_bar t lt sr wt rm) =
      settle_inv (store_s J s t) (send_inv s I t lt sr wt) (whole J (store_s J s t)) refl

  -- ---- EVERY TASK AWAITS an input
  settle_awaits : (s : Run R Car) → Awaits J s → (b : Bool) → Awaits J (cond b (finish_s J s) s)
  settle_awaits s A true t l q = let p = A t l q in let h = p.4 in (p.0, p.1, p.2, p.3, omega arith)
  settle_awaits s A false t l q = A t l q

  -- an awaited input other than d is awaited still
  still_awaits : (s : Run R Car) (d v : ℕ) (p : AwaitsAt J s v) → (d ≡ p.0 → ⊥) → AwaitsAt J (mark_s J s d) v
  still_awaits s d v p ne = (p.0, p.1, p.2, p.3, rw (ne_eqb d p.0 ne) (let h = p.4 in omega arith))

  -- a stored task's inputs are awaited again
  store_awaits : (s : Run R Car) (t : ℕ) → Order J s
      → ((v : ℕ) → v < n → src v ≡ false → (v ≡ t → ⊥) → AwaitsAt J s v) → Awaits J (store_s J s t)
  store_awaits s t O A v l q = go (eqb v t) refl
    where
      go : (b : Bool) → eqb v t ≡ b
          → (c : ℕ) × (c < m) × (to c ≡ v) × (back c ≡ false) × (s.gone c ≤ s.stored v + bit b)
      go true e = let p = some_in v l q in
          (p.0, p.1, p.2, p.3, omega (arith, O.one_mark p.0 p.1, ap s.stored p.2))
      go false e = let p = A v l q (eqb-false v t e) in let h = p.4 in (p.0, p.1, p.2, p.3, omega arith)

  -- channel c is still awaited at d's to_task
  mark_awaits : (s : Run R Car) (d c : ℕ) → Awaits J s → c < m → to c ≡ to d → back c ≡ false
      → (mark_s J s d).gone c ≤ s.stored (to d) → Awaits J (mark_s J s d)
  mark_awaits s d c A lc tc bc mc v l q = go (eqb v (to d)) refl (A v l q)
    where
      go : (b : Bool) → eqb v (to d) ≡ b → AwaitsAt J s v → AwaitsAt J (mark_s J s d) v
      go true e p = (c, lc, tc ∙ sym (eqb-true v (to d) e), bc, omega (arith, ap s.stored (eqb-true v (to d) e)))
      go false e p = still_awaits s d v p (λ h. eqb-false v (to d) e (sym p.2 ∙ ap to (sym h)))

  step_awaits : (s s' : Run R Car) → Order J s → Awaits J s → Step J s s' → Awaits J s'
  step_awaits s s' O A (read t r lt sr lo nxt rm) = A
  step_awaits s s' O A (deliver d r rest ld mk hd rm) = A
  step_awaits s s' O A (marks d rest ld bd mk hd c lc tc bc mc) = mark_awaits s d c A lc tc bc mc
  step_awaits s s' O A (completes d rest ld bd mk hd all rm) =
      settle_awaits (store_s J (mark_s J s d) (to d))
      (store_awaits (mark_s J s d) (to d) (mark_order J s O d rest mk hd)
      (λ v l q ne. let p = A v l q in still_awaits s d v p (λ h. ne (sym p.2 ∙ ap to (sym h)))))
      (whole J (store_s J (mark_s J s d) (to d)))
  step_awaits s s' O A (returns d rest ld bd mk hd) =
      settle_awaits (mark_s J s d)
      (λ v l q. let p = A v l q in still_awaits s d v p (λ h. true≢false (sym bd ∙ ap back h ∙ p.3)))
      (whole J (mark_s J s d))
  step_awaits s s' O A (sends_bar t lt sr wt rm) =
      settle_awaits (store_s J s t) (store_awaits s t O (λ v l q ne. A v l q)) (whole J (store_s J s t))

  -- ---- WHAT A GROWN RUN HAS is kept
  pub good_fits : {s : Run R Car} → Good J s → Fits J s
  good_fits K = record { order = K.inv.order; unfin = K.unfin; few = K.few }

  pub step_good : (s s' : Run R Car) → Good J s → Step J s s' → Good J s'
  step_good s s' K p =
      let F = step_fits s s' (good_fits K) p in
      record {
        inv = step_inv s s' K.inv p;
        awaits = step_awaits s s' K.inv.order K.awaits p;
        unfin = F.unfin;
        few = F.few;
      }

  -- no barrier is taken: every input is awaited
  none_taken : (t : ℕ) → t < n → src t ≡ false → (c : ℕ) × (c < m) × (to c ≡ t) × (back c ≡ false) × (0 ≤ 0)
  none_taken t l e = let p = some_in t l e in (p.0, p.1, p.2, p.3, omega arith)

  -- a run begun from totals, a snapshot begun, a cut
  pub start_good : (tot : ℕ → Car) (offs : ℕ → ℕ) → Direct J tot offs → Good J (start_s J tot offs)
  start_good tot offs h = record {
    inv = start_inv J tot offs h;
    awaits = none_taken;
    unfin = λ e. absurd (omega arith);
    few = omega arith;
  }

  pub begin_good : 0 < n → (s : Run R Car) → Good J s → s.going < cap → Good J (begin_s J s)
  begin_good some s K h = record {
    inv = begin_inv J s K.inv;
    awaits = K.awaits;
    unfin = (begin_fits some s (good_fits K) h).unfin;
    few = h;
  }

  pub cut_good : (s : Run R Car) → Good J s → Good J (cut_s J s)
  cut_good s K = record {
    inv = cut_inv J s K.inv;
    awaits = none_taken;
    unfin = λ e. absurd (omega arith);
    few = omega arith;
  }
