-- A delivered record keeps the law of conservation in every snapshot's view: it is counted at the task where the task has not
-- stored the snapshot, and logged where it has and the barrier has not come over the channel.
use mathlib.Core.Path.{◌≡◌, refl, sym, ap, ap₂, ◌∙◌}
use mathlib.Core.Bool.{Bool, true, false, cond, true≢false, false≢true}
use mathlib.Core.List.{List, [], ◌∷◌, ◌++◌, append-nil, append_assoc}
use Prim.Native.Nat.{ℕ, suc, ◌-◌, ◌<◌, ◌≤◌}
use native.Mathlib.Omega.{arith}
use lib.Dec.{eqb, ltb}
use borrow.Author.Tests.{eqb-true, lt-ltb, le-ltb, ltb-true, ltb-false}
use Rattle.laws.specs.Received.{keep}
use Rattle.laws.specs.Items.{Item, rec, upto}
use Rattle.laws.specs.Run.{Run, Job, pop, blocked, logs, deliver_s}
use Rattle.laws.specs.Invariant.{Bal, snap_tot, snap_pend, snap_off, Inv}
use Rattle.laws.proofs.Below.{same_place}
use Rattle.laws.proofs.Balance.{balance_same, balance_deliver}
use Rattle.laws.proofs.Items.{upto_pop, upto_log}
use Rattle.laws.proofs.Order.{pop_eq, deliver_order}
use Rattle.laws.proofs.Seen.{tot_open, tot_shut}
use Rattle.laws.proofs.Views.{put_counted}

module _ (J : Job) where
  open J use {R, g, G, M, φ, back}
  open g use {n, m, from, to}
  open M use {Car}

  module _ (s : Run R Car) (I : Inv J s) where
    -- ---- a record is delivered
    module _ (d : ℕ) (r : R) (rest : List (Item R)) (ld : d < m) (mk : blocked J s d ≡ false)
        (hd : s.chan d ≡ rec r ∷ rest) where
      unblocked : s.gone d ≤ s.stored (to d)
      unblocked = ltb-false (s.stored (to d)) (s.gone d) mk

      -- what the log of c gets: nothing where the to_task has not stored, and what is counted where it has
      no_log : (i c : ℕ) → s.stored (to c) ≤ i → logs J s d i c ≡ false
      no_log i c h = go (eqb d c) (ltb i (s.gone c))
        where
          go : (x y : Bool) → cond x (cond y false (ltb i (s.stored (to c)))) false ≡ false
          go true true = refl
          go true false = le-ltb i (s.stored (to c)) h
          go false y = refl

      logs_at : (i c : ℕ) → logs J s d i c ≡ true → (eqb d c ≡ true) × (s.gone c ≤ i) × (i < s.stored (to c))
      logs_at i c = go (eqb d c) (ltb i (s.gone c)) refl (ltb i (s.stored (to c))) refl
        where
          go : (x y : Bool) → ltb i (s.gone c) ≡ y → (z : Bool) → ltb i (s.stored (to c)) ≡ z
              → cond x (cond y false z) false ≡ true → (x ≡ true) × (s.gone c ≤ i) × (i < s.stored (to c))
          go true true e z q h = absurd (false≢true h)
          go true false e true q h = (refl, ltb-false i (s.gone c) e, ltb-true i (s.stored (to c)) q)
          go true false e false q h = absurd (false≢true h)
          go false y e z q h = absurd (false≢true h)

      logs_not : (i c : ℕ) → i < s.stored (to c) → eqb d c ≡ true → logs J s d i c ≡ false → i < s.gone c
      logs_not i c h = go (eqb d c) (ltb i (s.gone c)) refl (ltb i (s.stored (to c))) (lt-ltb i (s.stored (to c)) h)
        where
          go : (x y : Bool) → ltb i (s.gone c) ≡ y → (z : Bool) → z ≡ true → x ≡ true
              → cond x (cond y false z) false ≡ false → i < s.gone c
          go true true e z q w k = ltb-true i (s.gone c) e
          go true false e z q w k = absurd (true≢false (sym q ∙ k))
          go false y e z q w k = absurd (false≢true w)

      deliver_snap : (i : ℕ) (st : Bool) → ltb i (s.stored (to d)) ≡ st → (u : ℕ) (lu : u < n)
          → Bal J u (snap_tot J (deliver_s J s d r) i u) (snap_pend J (deliver_s J s d r) i)
          (snap_off J (deliver_s J s d r) i)
      deliver_snap i false e u lu =
          let un : s.stored (to d) ≤ i = ltb-false i (s.stored (to d)) e in
          balance_deliver g G M φ u lu d r (snap_tot J s i u) _ (snap_pend J s i)
          (λ c. s.log i c ++ upto (suc i - s.gone c) (pop J s.chan d c)) _ _ ld (I.snap_ok i u lu)
          (tot_open M (ltb i (s.stored u)) (eqb u (to d)) (s.half i u) (s.live u) (φ r)
          (λ q. ap (λ v. ltb i (s.stored v)) (eqb-true u (to d) q) ∙ e))
          (λ c l. upto_pop r rest (eqb d c) (suc i - s.gone c) (s.log i c) (s.chan c) (same_place s.chan d c hd)
          (λ q. omega (arith, unblocked, ap s.gone (eqb-true d c q)))
          (λ q. I.log_none i c l (omega (arith, ap (λ x. s.stored (to x)) (eqb-true d c q)))))
          (λ c l. ap₂ ◌++◌
          (ap (λ b. s.log i c ++ keep b (r ∷ [])) (quiet c (eqb d c) refl) ∙ append-nil (s.log i c))
          (put_counted J (pop J s.chan d) (to d) r i (s.gone c) (s.stored (from c)) c false
          (pop_eq J s I.order d r rest hd c l)
          (λ q. ap (λ v. ltb i (s.stored v)) (eqb-true (from c) (to d) q) ∙ e))
          ∙ sym (append_assoc (s.log i c) _ _))
        where
          quiet : (c : ℕ) (b : Bool) → eqb d c ≡ b → logs J s d i c ≡ false
          quiet c true q =
              no_log i c (omega (arith, ltb-false i (s.stored (to d)) e, ap (λ x. s.stored (to x)) (eqb-true d c q)))
          quiet c false q = rw q
      deliver_snap i true e u lu =
          balance_same g G M φ u lu (snap_tot J s i u) _ (snap_pend J s i) _ _ _ (I.snap_ok i u lu)
          (tot_shut M (ltb i (s.stored u)) (eqb u (to d)) (s.half i u) (s.live u) (φ r)
          (λ q. ap (λ v. ltb i (s.stored v)) (eqb-true u (to d) q) ∙ e))
          (λ c l. ap (λ z. (s.log i c ++ keep (logs J s d i c) (r ∷ [])) ++ z)
          (put_counted J (pop J s.chan d) (to d) r i (s.gone c) (s.stored (from c)) c true
          (pop_eq J s I.order d r rest hd c l)
          (λ q. ap (λ v. ltb i (s.stored v)) (eqb-true (from c) (to d) q) ∙ e)
          ∙ append-nil _)
          ∙ upto_log r rest (eqb d c) (logs J s d i c) (suc i - s.gone c) (s.log i c) (s.chan c) (same_place s.chan d c hd)
          (λ q. (logs_at i c q).0) (λ q. omega (arith, (logs_at i c q).1))
          (λ q k. omega (
            arith,
            logs_not i c
                (omega (arith, ltb-true i (s.stored (to d)) e, ap (λ x. s.stored (to x)) (eqb-true d c q))) q k,
          )))
          (λ v l. refl)

      pub deliver_inv : Inv J (deliver_s J s d r)
      deliver_inv = record {
        order = deliver_order J s I.order d r rest hd;
        log_none = λ i c l h. ap₂ (λ x b. x ++ keep b (r ∷ [])) (I.log_none i c l h) (no_log i c h);
        log_fwd = λ i c l e. ap₂ (λ x b. x ++ keep b (r ∷ [])) (I.log_fwd i c l e)
            (fwd_quiet i c l e (logs J s d i c) refl);
        last_log_fwd = I.last_log_fwd;
        snap_ok = λ i. deliver_snap i (ltb i (s.stored (to d))) refl;
        last_ok = I.last_ok;
      }
        where
          fwd_quiet : (i c : ℕ) → c < m → back c ≡ false → (b : Bool) → logs J s d i c ≡ b → b ≡ false
          fwd_quiet i c l e true q = let z = logs_at i c q in absurd (omega (arith, z.1, z.2, I.order.fwd c l e))
          fwd_quiet i c l e false q = refl
