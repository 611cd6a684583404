-- A snapshot's offsets are those at which the sources sent its barrier: what is stored of a source is what the onlooker noted
-- (`offsets_noted`), from any good run on which they agree at first.
use mathlib.Core.Path.{◌≡◌, refl, sym, ap, ap₂, ◌∙◌}
use mathlib.Core.Bool.{Bool, true, false, cond, true≢false}
use mathlib.Core.List.{List, [], ◌∷◌, ◌++◌, append-nil}
use Prim.Native.Nat.{ℕ, zero, suc, ◌+◌, ◌-◌, ◌<◌, ◌≤◌}
use native.Mathlib.Omega.{arith}
use lib.Dec.{eqb}
use borrow.Author.Tests.{eq-eqb, ne_eqb, lt-ltb, le-ltb}
use Rattle.laws.specs.Received.{keep}
use Rattle.laws.specs.Below.{bit, tab}
use Rattle.laws.specs.Run.{Run, Job, read_s, deliver_s, mark_s, store_s, begin_s, start_s}
use Rattle.laws.specs.Invariant.{Good}
use Rattle.laws.specs.Step.{Out, after, step_f, exec}
use Rattle.laws.specs.Onlooker.{first_of, rest_of, Notes, queued, note, notes, Agrees}
use Rattle.laws.proofs.Below.{tab_ext, tab_snoc}
use Rattle.laws.proofs.Moves.{whole_st}
use Rattle.laws.proofs.Did.{End, end_all, end_some, end_idle, Did, did_not, did_deliver, did_mark, did_complete, did_return}
use Rattle.laws.proofs.Did.{did_read, did_send, did_begin, did_cut, did}
use Rattle.laws.proofs.Grown.{any_good}

module _ (J : Job) where
  open J use {R, g, M, src, no_in}
  open g use {n, to}
  open M use {Car}

  -- the end of a store
  end_agrees : (s₂ : Run R Car) (h : Notes) (s : Run R Car) (k : ℕ) → (k ≡ 65 → ⊥)
      → ((t : ℕ) → t < n → src t ≡ true → tab (s₂.stored t) (λ i. s₂.half_off i t) ≡ queued J s k h.sent t)
      → ((t : ℕ) → t < n → src t ≡ true → s₂.last_off t ≡ h.complete t)
      → (o : Out (Run R Car)) → End J s₂ o → Agrees J (after s o) (note J s k o h)
  end_agrees s₂ h s k nk a l o (end_all on q) = record {
    half_noted = λ t lt sr. up t (s₂.stored t) (whole_st J s₂ q t lt) (a t lt sr);
    last_noted = λ t lt sr. top t (s₂.stored t) (whole_st J s₂ q t lt) (a t lt sr);
  }
    where
      up : (t j : ℕ) → 0 < j → tab j (λ i. s₂.half_off i t) ≡ queued J s k h.sent t
          → tab (j - 1) (λ i. s₂.half_off (suc i) t) ≡ rest_of (queued J s k h.sent t)
      up t zero p e = absurd (omega arith)
      up t (suc j) p e = let z : suc j - 1 ≡ j = omega arith in
          ap (λ k. tab k (λ i. s₂.half_off (suc i) t)) z ∙ ap rest_of e

      top : (t j : ℕ) → 0 < j → tab j (λ i. s₂.half_off i t) ≡ queued J s k h.sent t
          → s₂.half_off 0 t ≡ first_of (queued J s k h.sent t)
      top t zero p e = absurd (omega arith)
      top t (suc j) p e = ap first_of e
  end_agrees s₂ h s k nk a l o (end_some on q) =
      record { half_noted = λ t lt sr. rw (ne_eqb k 65 nk) (a t lt sr); last_noted = l }
  end_agrees s₂ h s k nk a l o (end_idle on) =
      record { half_noted = λ t lt sr. rw (ne_eqb k 65 nk) (a t lt sr); last_noted = l }

  module _ (s : Run R Car) (k : ℕ) (h : Notes) (A : Agrees J s h) where
    -- only a step of 48 to 63 adds to a queue
    before_48 : k < 48 → (v : ℕ) → queued J s k h.sent v ≡ h.sent v
    before_48 l v = rw (lt-ltb k 48 l) (append-nil (h.sent v))

    from_64 : 64 ≤ k → (v : ℕ) → queued J s k h.sent v ≡ h.sent v
    from_64 l v = rw (le-ltb k 48 (omega arith), le-ltb k 64 l) (append-nil (h.sent v))

    at_48 : (t : ℕ) → k ≡ 48 + t → k < 64 → (v : ℕ)
        → queued J s k h.sent v ≡ h.sent v ++ keep (eqb v t) (s.off v ∷ [])
    at_48 t kt l v = let b : k - 48 ≡ t = omega arith in rw (le-ltb k 48 (omega arith), lt-ltb k 64 l, b)

    -- one more is stored
    tab_store : (t v : ℕ)
        → tab ((store_s J s t).stored v) (λ i. (store_s J s t).half_off i v)
        ≡ tab (s.stored v) (λ i. s.half_off i v) ++ keep (eqb v t) (s.off v ∷ [])
    tab_store t v = go (eqb v t)
      where
        go : (b : Bool)
            → tab (s.stored v + bit b) (λ i. cond b (cond (eqb i (s.stored v)) (s.off v) (s.half_off i v)) (s.half_off i v))
            ≡ tab (s.stored v) (λ i. s.half_off i v) ++ keep b (s.off v ∷ [])
        go true =
            let one : s.stored v + 1 ≡ suc (s.stored v) = omega arith in
            ap (λ j. tab j (λ i. cond (eqb i (s.stored v)) (s.off v) (s.half_off i v))) one
            ∙ tab_snoc (s.stored v) (λ i. cond (eqb i (s.stored v)) (s.off v) (s.half_off i v))
            ∙ ap₂ {C = List ℕ} (λ l x. l ++ (x ∷ []))
            (tab_ext (s.stored v) _ _
            (λ i l. ap (λ b. cond b (s.off v) (s.half_off i v)) (ne_eqb i (s.stored v) (omega arith))))
            (ap (λ b. cond b (s.off v) (s.half_off (s.stored v) v)) (eq-eqb (s.stored v) (s.stored v) refl))
        go false =
            let none : s.stored v + 0 ≡ s.stored v = omega arith in
            ap (λ j. tab j (λ i. s.half_off i v)) none ∙ sym (append-nil (tab (s.stored v) (λ i. s.half_off i v)))

    -- a step that stores nothing
    same_agrees : (s' : Run R Car) → (k ≡ 65 → ⊥) → ((v : ℕ) → queued J s k h.sent v ≡ h.sent v)
        → ((t : ℕ) → t < n → tab (s'.stored t) (λ i. s'.half_off i t) ≡ tab (s.stored t) (λ i. s.half_off i t))
        → ((t : ℕ) → s'.last_off t ≡ s.last_off t)
        → Agrees J s' (record { sent = λ v. cond (eqb k 65) [] (queued J s k h.sent v); complete = h.complete })
    same_agrees s' nk e a c = record {
      half_noted = λ t lt sr. rw (ne_eqb k 65 nk) (a t lt ∙ A.half_noted t lt sr ∙ sym (e t));
      last_noted = λ t lt sr. c t ∙ A.last_noted t lt sr;
    }

    did_agrees : ((t : ℕ) → t < n → s.stored t ≤ s.going) → (o : Out (Run R Car)) → Did J s k o
        → Agrees J (after s o) (note J s k o h)
    did_agrees idle o (did_not a w) = A
    did_agrees idle o (did_deliver r rest l ld mk hd rm) =
        same_agrees (deliver_s J s k r) (omega arith) (before_48 (omega arith)) (λ t l. refl) (λ t. refl)
    did_agrees idle o (did_mark rest l ld bd mk hd c lc tc bc mc) =
        same_agrees (mark_s J s k) (omega arith) (before_48 (omega arith)) (λ t l. refl) (λ t. refl)
    did_agrees idle o (did_complete rest l ld bd mk hd all rm e) =
        end_agrees (store_s J (mark_s J s k) (to k)) h s k (omega arith)
        (λ t lt sr. tab_store (to k) t
        ∙ ap (λ b. tab (s.stored t) (λ i. s.half_off i t) ++ keep b (s.off t ∷ []))
        (ne_eqb t (to k) (λ q. true≢false (sym sr ∙ ap src q ∙ no_in k ld)))
        ∙ append-nil _ ∙ A.half_noted t lt sr ∙ sym (before_48 (omega arith) t))
        A.last_noted o e
    did_agrees idle o (did_return rest l ld bd mk hd e) =
        end_agrees (mark_s J s k) h s k (omega arith) (λ t lt sr. A.half_noted t lt sr ∙ sym (before_48 (omega arith) t))
        A.last_noted o e
    did_agrees idle o (did_read t r rest kt l lt sr hd rm) =
        same_agrees (read_s J s t r) (omega arith) (before_48 l) (λ t l. refl) (λ t. refl)
    did_agrees idle o (did_send t kt l lt sr wt rm e) =
        end_agrees (store_s J s t) h s k (omega arith)
        (λ v lv sv. tab_store t v ∙ ap (λ z. z ++ keep (eqb v t) (s.off v ∷ [])) (A.half_noted v lv sv) ∙ sym (at_48 t kt l v))
        A.last_noted o e
    did_agrees idle o (did_begin e q) =
        same_agrees (begin_s J s) (omega arith) (from_64 (omega arith))
        (λ t l. tab_ext (s.stored t) (λ i. (begin_s J s).half_off i t) (λ i. s.half_off i t)
        (λ i li. ap (λ b. cond b 0 (s.half_off i t))
        (ne_eqb i s.going (let z : s.stored t ≤ s.going = idle t l in omega arith))))
        (λ t. refl)
    did_agrees idle o (did_cut e) = record { half_noted = λ t lt sr. rw (eq-eqb k 65 e); last_noted = A.last_noted }

  -- THE OFFSETS: from any good run on which they agree, what the last complete snapshot holds as offsets is what the onlooker noted
  pub offsets_noted : 0 < n → (ks : List ℕ) (s : Run R Car) (h : Notes) → Good J s → Agrees J s h
      → Agrees J (exec J ks s) (notes J ks s h)
  offsets_noted some [] s h K A = A
  offsets_noted some (k ∷ ks) s h K A =
      offsets_noted some ks (after s (step_f J s k)) (note J s k (step_f J s k) h) (any_good J some s k K)
      (did_agrees s k h A K.inv.order.idle (step_f J s k) (did J s k))

  pub start_agrees : (tot : ℕ → Car) (offs : ℕ → ℕ)
      → Agrees J (start_s J tot offs) (record { sent = λ v. []; complete = offs })
  start_agrees tot offs = record { half_noted = λ t lt sr. refl; last_noted = λ t lt sr. refl }
