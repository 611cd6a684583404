-- Every part of a step keeps the law of conservation in every snapshot's view: a read, a barrier taken, a store, a begin, the
-- oldest complete, a cut. (A delivered record: Deliver.antt.) With no record under way the totals are direct evaluation's.
use mathlib.Core.Path.{◌≡◌, refl, sym, ap, ◌∙◌, subst}
use mathlib.Core.Bool.{Bool, true, false, cond, not, true≢false, false≢true}
use mathlib.Core.List.{List, [], ◌∷◌, ◌++◌, append-nil, append_assoc}
use Prim.Native.Nat.{ℕ, suc, ◌+◌, ◌-◌, ◌<◌, ◌≤◌}
use native.Mathlib.Omega.{arith}
use lib.Dec.{eqb, ltb}
use lib.ListN.{take}
use borrow.Author.Tests.{eqb-true, lt-ltb, le-ltb, ltb-true, ltb-false}
use Rattle.laws.specs.Received.{keep}
use Rattle.laws.specs.Below.{bit}
use Rattle.laws.specs.Items.{Item, barrier, recs, upto, bars, as_items}
use Rattle.laws.specs.Run.{Run, Job, put, blocked, read_s, mark_s, store_s, begin_s, finish_s, cut_s, start_s}
use Rattle.laws.specs.Invariant.{direct_at, Direct, Bal, snap_tot, snap_pend, snap_off, Inv}
use Rattle.laws.specs.Moves.{Next}
use Rattle.laws.proofs.Below.{ltb_up, same_place}
use Rattle.laws.proofs.Flow.{Sent}
use Rattle.laws.proofs.Balance.{balance_final, balance_start, balance_same, balance_read}
use Rattle.laws.proofs.Items.{recs-append, recs_as_items, bars_as_items, upto_all, upto-append, upto_bar, recs_keep, bars_keep}
use Rattle.laws.proofs.Items.{keep_keep, upto_mark}
use Rattle.laws.proofs.Order.{start_order, read_order, mark_order, store_order, begin_order, finish_order, cut_order}
use Rattle.laws.proofs.Seen.{tot_open, tot_shut, tot_store, tot_clear, take_open, take_shut}

module _ (J : Job) where
  open J use {R, g, G, M, φ, src, part, back}
  open g use {n, m, from, to, sends, depth}
  open M use {Car, unit as ε}

  -- a run begun from totals that are direct evaluation's (request k)
  pub start_inv : (tot : ℕ → Car) (offs : ℕ → ℕ) → Direct J tot offs → Inv J (start_s J tot offs)
  start_inv tot offs h = record {
    order = start_order J tot offs;
    log_none = λ i c l e. refl;
    log_fwd = λ i c l e. refl;
    last_log_fwd = λ c l e. refl;
    snap_ok = λ i u lu. balance_start g G M φ u lu _ _ _ (rw (le-ltb i 0 (omega arith)) (h u lu))
        (λ c l. upto_all (suc i - 0) [] (omega arith));
    last_ok = λ u lu. balance_start g G M φ u lu _ _ _ (h u lu) (λ c l. refl);
  }

  -- records put on t's outputs
  pub put_recs : (ch : ℕ → List (Item R)) (t : ℕ) (r : R)
      → Sent g t r (λ c. recs (ch c)) (λ c. recs (put J ch t (λ c. as_items (sends c r)) c))
  put_recs ch t r c l = recs-append (ch c) (keep (eqb (from c) t) (as_items (sends c r)))
      ∙ ap (λ z. recs (ch c) ++ z) (recs_keep (eqb (from c) t) (sends c r))

  -- the same, as snapshot i counts them: where the from_task has not stored it
  pub put_counted : (ch : ℕ → List (Item R)) (t : ℕ) (r : R) (i gn f c : ℕ) (st : Bool) → bars (ch c) + gn ≡ f
      → (eqb (from c) t ≡ true → ltb i f ≡ st)
      → upto (suc i - gn) (put J ch t (λ c. as_items (sends c r)) c)
      ≡ upto (suc i - gn) (ch c) ++ keep (not st) (keep (eqb (from c) t) (sends c r))
  put_counted ch t r i gn f c st h p =
      upto-append (not (ltb i f)) (suc i - gn) (ch c) (keep (eqb (from c) t) (as_items (sends c r)))
      (λ e. open_at (ltb i f) refl e) (λ e. shut_at (ltb i f) refl e) (bars_keep (eqb (from c) t) (sends c r))
      ∙ ap (λ z. upto (suc i - gn) (ch c) ++ z)
      (ap (keep (not (ltb i f))) (recs_keep (eqb (from c) t) (sends c r))
      ∙ keep_keep (eqb (from c) t) (ltb i f) st (sends c r) p)
    where
      open_at : (x : Bool) → ltb i f ≡ x → not x ≡ true → bars (ch c) < suc i - gn
      open_at true e q = absurd (false≢true q)
      open_at false e q = let a : f ≤ i = ltb-false i f e in omega arith

      shut_at : (x : Bool) → ltb i f ≡ x → not x ≡ false → suc i - gn ≤ bars (ch c)
      shut_at true e q = let a : i < f = ltb-true i f e in omega arith
      shut_at false e q = absurd (true≢false q)

  module _ (s : Run R Car) (I : Inv J s) where
    -- ---- the law of the live run: the view of the snapshot that is not begun
    pub live_ok : (u : ℕ) (lu : u < n) → Bal J u (s.live u) (λ c. recs (s.chan c)) s.off
    live_ok u lu = balance_same g G M φ u lu (snap_tot J s s.going u) (s.live u) (snap_pend J s s.going)
        (λ c. recs (s.chan c)) _ _ (I.snap_ok s.going u lu)
        (rw (le-ltb s.going (s.stored u) (I.order.idle u lu)))
        (λ c l. sym
        (ap (λ z. z ++ upto (suc s.going - s.gone c) (s.chan c))
        (I.log_none s.going c l (I.order.idle (to c) (G.to_ok c l)))
        ∙ upto_all (suc s.going - s.gone c) (s.chan c)
        (omega (arith, I.order.bar_eq c l, I.order.idle (from c) (G.from_ok c l)))))
        (λ v l. rw (le-ltb s.going (s.stored v) (I.order.idle v l)))

    -- ---- a source reads
    module _ (t : ℕ) (r : R) (lt : t < n) (nxt : Next J s t r) where
      at_t : (v : ℕ) → eqb t v ≡ true → Next J s v r
      at_t v e = subst (λ w. Next J s w r) (eqb-true t v e) nxt

      read_snap : (i : ℕ) (st : Bool) → ltb i (s.stored t) ≡ st → (u : ℕ) (lu : u < n)
          → Bal J u (snap_tot J (read_s J s t r) i u) (snap_pend J (read_s J s t r) i) (snap_off J (read_s J s t r) i)
      read_snap i false e u lu =
          balance_read g G M φ u lu t r (snap_tot J s i u) _ (snap_pend J s i) _ _ _ lt (I.snap_ok i u lu)
          (tot_open M (ltb i (s.stored u)) (eqb u t) (s.half i u) (s.live u) (φ r)
          (λ q. ap (λ v. ltb i (s.stored v)) (eqb-true u t q) ∙ e))
          (λ c l. ap (λ z. s.log i c ++ z)
          (put_counted s.chan t r i (s.gone c) (s.stored (from c)) c false (I.order.bar_eq c l)
          (λ q. ap (λ v. ltb i (s.stored v)) (eqb-true (from c) t q) ∙ e))
          ∙ sym (append_assoc (s.log i c) _ _))
          (λ v l. take_open (ltb i (s.stored v)) (eqb t v) (s.half_off i v) (s.off v) (part v) r (at_t v)
          (λ q. ap (λ v. ltb i (s.stored v)) (sym (eqb-true t v q)) ∙ e))
      read_snap i true e u lu =
          balance_same g G M φ u lu (snap_tot J s i u) _ (snap_pend J s i) _ _ _ (I.snap_ok i u lu)
          (tot_shut M (ltb i (s.stored u)) (eqb u t) (s.half i u) (s.live u) (φ r)
          (λ q. ap (λ v. ltb i (s.stored v)) (eqb-true u t q) ∙ e))
          (λ c l. ap (λ z. s.log i c ++ z)
          (put_counted s.chan t r i (s.gone c) (s.stored (from c)) c true (I.order.bar_eq c l)
          (λ q. ap (λ v. ltb i (s.stored v)) (eqb-true (from c) t q) ∙ e)
          ∙ append-nil _))
          (λ v l. take_shut (ltb i (s.stored v)) (eqb t v) (s.half_off i v) (s.off v) (part v)
          (λ q. ap (λ v. ltb i (s.stored v)) (sym (eqb-true t v q)) ∙ e))

      pub read_inv : Inv J (read_s J s t r)
      read_inv = record {
        order = read_order J s I.order t r;
        log_none = I.log_none;
        log_fwd = I.log_fwd;
        last_log_fwd = I.last_log_fwd;
        snap_ok = λ i. read_snap i (ltb i (s.stored t)) refl;
        last_ok = I.last_ok;
      }

    -- ---- a barrier is taken
    module _ (d : ℕ) (rest : List (Item R)) (ld : d < m) (mk : blocked J s d ≡ false)
        (hd : s.chan d ≡ barrier ∷ rest) where
      pub mark_inv : Inv J (mark_s J s d)
      mark_inv = record {
        order = mark_order J s I.order d rest mk hd;
        log_none = I.log_none;
        log_fwd = I.log_fwd;
        last_log_fwd = I.last_log_fwd;
        snap_ok =
            λ i u lu. balance_same g G M φ u lu (snap_tot J s i u) _ (snap_pend J s i) _ _ _ (I.snap_ok i u lu) refl
            (λ c l. ap (λ z. s.log i c ++ z)
            (upto_mark rest (eqb d c) (suc i - s.gone c) (suc i - (s.gone c + bit (eqb d c))) (s.chan c)
            (same_place s.chan d c hd) (omega arith)))
            (λ v l. refl);
        last_ok = I.last_ok;
      }

    -- ---- a task stores its next snapshot
    module _ (t : ℕ) (lt : t < n) (on : s.stored t < s.going) (wt : src t ≡ true → 0 < s.wait t)
        (all : (c : ℕ) → c < m → to c ≡ t → back c ≡ false → s.stored t < s.gone c) where
      pub store_inv : Inv J (store_s J s t)
      store_inv = record {
        order = store_order J s I.order t on wt all;
        log_none = λ i c l h. I.log_none i c l (omega (arith, h));
        log_fwd = I.log_fwd;
        last_log_fwd = I.last_log_fwd;
        snap_ok = λ i u lu. balance_same g G M φ u lu (snap_tot J s i u) _ (snap_pend J s i) _ _ _ (I.snap_ok i u lu)
            (tot_store (eqb u t) i (s.stored u) (s.half i u) (s.live u))
            (λ c l. ap (λ z. s.log i c ++ z) (upto_bar (eqb (from c) t) (suc i - s.gone c) (s.chan c)))
            (λ v l. ap (λ k. take k (part v)) (tot_store (eqb v t) i (s.stored v) (s.half_off i v) (s.off v)));
        last_ok = I.last_ok;
      }

    -- ---- a snapshot begins: no view changes
    pub begin_inv : Inv J (begin_s J s)
    begin_inv = record {
      order = begin_order J s I.order;
      log_none = I.log_none;
      log_fwd = I.log_fwd;
      last_log_fwd = I.last_log_fwd;
      snap_ok = λ i u lu. balance_same g G M φ u lu (snap_tot J s i u) _ (snap_pend J s i) _ _ _ (I.snap_ok i u lu)
          (tot_clear i (s.stored u) s.going ε (s.half i u) (s.live u) (I.order.idle u lu))
          (λ c l. refl)
          (λ v l. ap (λ k. take k (part v))
          (tot_clear i (s.stored v) s.going 0 (s.half_off i v) (s.off v) (I.order.idle v l)));
      last_ok = I.last_ok;
    }

    -- ---- every task has stored the oldest, and its barrier has come back everywhere: it is complete, and the others move up
    pub finish_inv : ((t : ℕ) → t < n → 0 < s.stored t) → ((c : ℕ) → c < m → 0 < s.gone c) → Inv J (finish_s J s)
    finish_inv all ret = record {
      order = finish_order J s I.order all ret;
      log_none = λ i c l h. I.log_none (suc i) c l (omega (arith, h));
      log_fwd = λ i c l e. I.log_fwd (suc i) c l e;
      last_log_fwd = λ c l e. I.log_fwd 0 c l e;
      snap_ok = λ i u lu. balance_same g G M φ u lu (snap_tot J s (suc i) u) _ (snap_pend J s (suc i)) _ _ _
          (I.snap_ok (suc i) u lu)
          (ap (λ b. cond b (s.half (suc i) u) (s.live u)) (ltb_up i (s.stored u) (all u lu)))
          (λ c l. let z : suc i - (s.gone c - 1) ≡ suc (suc i) - s.gone c = omega (arith, ret c l) in
          ap (λ k. s.log (suc i) c ++ upto k (s.chan c)) z)
          (λ v l. ap (λ b. take (cond b (s.half_off (suc i) v) (s.off v)) (part v)) (ltb_up i (s.stored v) (all v l)));
      last_ok = λ u lu. balance_same g G M φ u lu (snap_tot J s 0 u) _ (snap_pend J s 0) _ _ _ (I.snap_ok 0 u lu)
          (rw (lt-ltb 0 (s.stored u) (all u lu)))
          (λ c l. let z : 1 - s.gone c ≡ 0 = omega (arith, ret c l) in
          sym (ap (λ k. s.log 0 c ++ upto k (s.chan c)) z ∙ append-nil (s.log 0 c)))
          (λ v l. rw (lt-ltb 0 (s.stored v) (all v l)));
    }

    -- ---- a cut
    pub cut_inv : Inv J (cut_s J s)
    cut_inv = record {
      order = cut_order J s I.order;
      log_none = λ i c l h. refl;
      log_fwd = λ i c l e. refl;
      last_log_fwd = I.last_log_fwd;
      snap_ok = λ i u lu. balance_same g G M φ u lu (s.last u) _ s.last_log _ _ _ (I.last_ok u lu)
          (ap (λ b. cond b ε (s.last u)) (le-ltb i 0 (omega arith)))
          (λ c l. upto_all (suc i - 0) (as_items (s.last_log c)) (omega (arith, bars_as_items (s.last_log c)))
          ∙ recs_as_items (s.last_log c))
          (λ v l. rw (le-ltb i 0 (omega arith)));
      last_ok = I.last_ok;
    }

    -- ---- what the invariant says: without back channels the last complete snapshot holds direct evaluation's totals at its offsets
    pub last_direct : ((c : ℕ) → c < m → back c ≡ false) → (u : ℕ) → u < n → s.last u ≡ direct_at J s.last_off u
    last_direct none u lu =
        balance_final g G M φ u lu (s.last u) s.last_log _ (I.last_ok u lu) (λ c l. I.last_log_fwd c l (none c l))

    -- with no record under way the live totals are direct evaluation's
    pub live_direct : ((c : ℕ) → c < m → recs (s.chan c) ≡ []) → (u : ℕ) → u < n
        → s.live u ≡ direct_at J s.off u
    live_direct e u lu = balance_final g G M φ u lu (s.live u) (λ c. recs (s.chan c)) _ (live_ok u lu) e
