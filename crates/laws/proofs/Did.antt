-- THE ONE WALK through the step: what a step number comes to, with all that was tested on the way. `Did` has a constructor for each
-- way, `did` finds the one that a step takes, and every law of the step is by cases of it.
use mathlib.Core.Path.{◌≡◌, refl}
use mathlib.Core.Bool.{Bool, true, false, cond, true≢false}
use mathlib.Core.List.{List, [], ◌∷◌}
use Prim.Native.Nat.{ℕ, ◌+◌, ◌-◌, ◌<◌, ◌≤◌}
use native.Mathlib.Omega.{arith}
use lib.Dec.{eqb, ltb}
use lib.ListN.{drop, length}
use borrow.Author.Tests.{eq-eqb, eqb-true, ltb-true, ltb-false}
use Rattle.laws.specs.Items.{Item, barrier, rec}
use Rattle.laws.specs.Run.{Run, Job, blocked, read_s, deliver_s, mark_s, store_s, begin_s, finish_s, cut_s}
use Rattle.laws.specs.Moves.{whole, Room, AllMarked}
use Rattle.laws.specs.Step.{Out, done, ended, refused, room_b, marked_b, log_full, end_f, bar_f, head_f, next_f, step_f}
use Rattle.laws.proofs.Below.{all_true, all_false, cond_true, cond_false, cond_back}

module _ (J : Job) where
  open J use {R, g, M, src, part, back, cap, full}
  open g use {n, m, from, to}
  open M use {Car}

  -- the end of a store or of a return: a snapshot became complete, or it is not whole yet, or none is under way
  pub data End (s₂ : Run R Car) : Out (Run R Car) → Type 0 where
    end_all : ltb 0 s₂.going ≡ true → whole J s₂ ≡ true → End s₂ (ended (finish_s J s₂))
    end_some : ltb 0 s₂.going ≡ true → whole J s₂ ≡ false → End s₂ (done s₂)
    end_idle : ltb 0 s₂.going ≡ false → End s₂ (done s₂)

  -- what the refusal 17 tells: a record is to be delivered to a task whose count is at its bound
  abbrev pub Over : Run R Car → ℕ → Type 0
  Over s k = (r : R) × (rest : List (Item R)) × (k < m) × (s.chan k ≡ rec r ∷ rest) × (full (s.live (to k)) ≡ true)

  pub data Did (s : Run R Car) (k : ℕ) : Out (Run R Car) → Type 0 where
    did_not : (a : ℕ) → (a ≡ 17 → Over s k) → Did s k (refused a)
    did_deliver : (r : R) (rest : List (Item R)) → k < 32 → k < m → blocked J s k ≡ false
        → s.chan k ≡ rec r ∷ rest → Room J s (to k) → Did s k (done (deliver_s J s k r))
    did_mark : (rest : List (Item R)) → k < 32 → k < m → back k ≡ false → blocked J s k ≡ false
        → s.chan k ≡ barrier ∷ rest → (c : ℕ) → c < m → to c ≡ to k → back c ≡ false
        → (mark_s J s k).gone c ≤ s.stored (to k) → Did s k (done (mark_s J s k))
    did_complete : (rest : List (Item R)) → k < 32 → k < m → back k ≡ false → blocked J s k ≡ false
        → s.chan k ≡ barrier ∷ rest → AllMarked J s k → Room J s (to k) → {o : Out (Run R Car)}
        → End (store_s J (mark_s J s k) (to k)) o → Did s k o
    did_return : (rest : List (Item R)) → k < 32 → k < m → back k ≡ true → blocked J s k ≡ false
        → s.chan k ≡ barrier ∷ rest → {o : Out (Run R Car)} → End (mark_s J s k) o → Did s k o
    did_read : (t : ℕ) (r : R) (rest : List R) → k ≡ 32 + t → k < 48 → t < n → src t ≡ true
        → drop (s.off t) (part t) ≡ r ∷ rest → Room J s t → Did s k (done (read_s J s t r))
    did_send : (t : ℕ) → k ≡ 48 + t → k < 64 → t < n → src t ≡ true → 0 < s.wait t → Room J s t
        → {o : Out (Run R Car)} → End (store_s J s t) o → Did s k o
    did_begin : k ≡ 64 → s.going < cap → Did s k (done (begin_s J s))
    did_cut : k ≡ 65 → Did s k (done (cut_s J s))

  room_of : (s : Run R Car) (t : ℕ) → room_b J s t ≡ true → Room J s t
  room_of s t h c l e = ltb-true (length (s.chan c)) (8 + s.front c)
      (cond_true (eqb (from c) t) (ltb (length (s.chan c)) (8 + s.front c))
      (all_true m (λ c. cond (eqb (from c) t) (ltb (length (s.chan c)) (8 + s.front c)) true) h c l)
      (eq-eqb (from c) t e))

  pub marked_of : (s : Run R Car) (t : ℕ) → marked_b J s t ≡ true → (c : ℕ) → c < m → to c ≡ t → back c ≡ false
      → s.stored t < s.gone c
  marked_of s t h c l e b = ltb-true (s.stored t) (s.gone c)
      (open_back (back c) b (cond_true (eqb (to c) t) (cond (back c) true (ltb (s.stored t) (s.gone c)))
      (all_true m (λ c. cond (eqb (to c) t) (cond (back c) true (ltb (s.stored t) (s.gone c))) true) h c l)
      (eq-eqb (to c) t e)))
    where
      open_back : (b : Bool) {x : Bool} → b ≡ false → cond b true x ≡ true → x ≡ true
      open_back true q h = absurd (true≢false q)
      open_back false q h = h

  ends : (s₂ : Run R Car) (on b : Bool) → ltb 0 s₂.going ≡ on → whole J s₂ ≡ b
      → End s₂ (cond on (cond b (ended (finish_s J s₂)) (done s₂)) (done s₂))
  ends s₂ true true e q = end_all e q
  ends s₂ true false e q = end_some e q
  ends s₂ false b e q = end_idle e

  module _ (s : Run R Car) (k : ℕ) where
    -- a refusal other than 17
    no_step : (a : ℕ) → (a ≡ 17 → ⊥) → Did s k (refused a)
    no_step a ne = did_not a (λ e. absurd (ne e))

    did_bar : (rest : List (Item R)) → k < 32 → k < m → blocked J s k ≡ false → s.chan k ≡ barrier ∷ rest
        → (z : Bool) → back k ≡ z → (b : Bool) → marked_b J (mark_s J s k) (to k) ≡ b → (r : Bool)
        → room_b J s (to k) ≡ r → Did s k (bar_f J s k z b)
    did_bar rest l ld mk hd true w b e r e₂ =
        did_return rest l ld w mk hd (ends (mark_s J s k) (ltb 0 s.going) (whole J (mark_s J s k)) refl refl)
    did_bar rest l ld mk hd false w false e r e₂ =
        let q = all_false m
        (λ c. cond (eqb (to c) (to k))
        (cond (back c) true (ltb (s.stored (to k)) ((mark_s J s k).gone c))) true) e in
        let z = cond_false (eqb (to q.0) (to k))
        (cond (back q.0) true (ltb (s.stored (to k)) ((mark_s J s k).gone q.0))) q.2 in
        let y = cond_back (back q.0) (ltb (s.stored (to k)) ((mark_s J s k).gone q.0)) z.1 in
        did_mark rest l ld w mk hd q.0 q.1 (eqb-true (to q.0) (to k) z.0) y.0
        (ltb-false (s.stored (to k)) ((mark_s J s k).gone q.0) y.1)
    did_bar rest l ld mk hd false w true e false e₂ = rw e₂ (no_step 14 (omega arith))
    did_bar rest l ld mk hd false w true e true e₂ =
        rw e₂ (did_complete rest l ld w mk hd (marked_of (mark_s J s k) (to k) e) (room_of s (to k) e₂)
        (ends (store_s J (mark_s J s k) (to k)) (ltb 0 s.going) (whole J (store_s J (mark_s J s k) (to k))) refl refl))

    did_head : k < 32 → k < m → blocked J s k ≡ false → (xs : List (Item R)) → s.chan k ≡ xs → (r : Bool)
        → room_b J s (to k) ≡ r → (g : Bool) → log_full J s k ≡ g → (f : Bool) → full (s.live (to k)) ≡ f
        → Did s k (head_f J s k xs)
    did_head l ld mk [] e r e₂ g e₄ f e₃ = no_step 13 (omega arith)
    did_head l ld mk (rec x ∷ rest) e false e₂ g e₄ f e₃ = rw e₂ (no_step 14 (omega arith))
    did_head l ld mk (rec x ∷ rest) e true e₂ true e₄ f e₃ = rw (e₂, e₄) (no_step 33 (omega arith))
    did_head l ld mk (rec x ∷ rest) e true e₂ false e₄ true e₃ =
        rw (e₂, e₄, e₃) (did_not 17 (λ w. (x, rest, ld, e, e₃)))
    did_head l ld mk (rec x ∷ rest) e true e₂ false e₄ false e₃ =
        rw (e₂, e₄, e₃) (did_deliver x rest l ld mk e (room_of s (to k) e₂))
    did_head l ld mk (barrier ∷ rest) e r e₂ g e₄ f e₃ =
        did_bar rest l ld mk e (back k) refl (marked_b J (mark_s J s k) (to k)) refl r e₂

    did_channel : k < 32 → (a b : Bool) → ltb k m ≡ a → blocked J s k ≡ b
        → Did s k (cond a (cond b (refused 12) (head_f J s k (s.chan k))) (refused 11))
    did_channel l true true e q = no_step 12 (omega arith)
    did_channel l true false e q = did_head l (ltb-true k m e) q (s.chan k) refl (room_b J s (to k)) refl
        (log_full J s k) refl (full (s.live (to k))) refl
    did_channel l false b e q = no_step 11 (omega arith)

    did_next : (t : ℕ) → k ≡ 32 + t → k < 48 → t < n → src t ≡ true → (xs : List R)
        → drop (s.off t) (part t) ≡ xs → (r : Bool) → room_b J s t ≡ r → Did s k (next_f J s t xs)
    did_next t kt l lt sr [] e r e₂ = no_step 13 (omega arith)
    did_next t kt l lt sr (x ∷ rest) e false e₂ = rw e₂ (no_step 14 (omega arith))
    did_next t kt l lt sr (x ∷ rest) e true e₂ = rw e₂ (did_read t x rest kt l lt sr e (room_of s t e₂))

    did_source : (t : ℕ) → k ≡ 32 + t → k < 48 → (a b : Bool) → ltb t n ≡ a → src t ≡ b
        → Did s k (cond a (cond b (next_f J s t (drop (s.off t) (part t))) (refused 11)) (refused 11))
    did_source t kt l true true e q =
        did_next t kt l (ltb-true t n e) q (drop (s.off t) (part t)) refl (room_b J s t) refl
    did_source t kt l true false e q = no_step 11 (omega arith)
    did_source t kt l false b e q = no_step 11 (omega arith)

    did_barrier : (t : ℕ) → k ≡ 48 + t → k < 64 → (a b w r : Bool) → ltb t n ≡ a → src t ≡ b
        → ltb 0 (s.wait t) ≡ w → room_b J s t ≡ r
        → Did s k
        (cond a (cond b (cond w (cond r (end_f J (store_s J s t)) (refused 14)) (refused 13)) (refused 11))
        (refused 11))
    did_barrier t kt l true true true true e q w r = did_send t kt l (ltb-true t n e) q (ltb-true 0 (s.wait t) w)
        (room_of s t r) (ends (store_s J s t) (ltb 0 s.going) (whole J (store_s J s t)) refl refl)
    did_barrier t kt l true true true false e q w r = no_step 14 (omega arith)
    did_barrier t kt l true true false rb e q w r = no_step 13 (omega arith)
    did_barrier t kt l true false wb rb e q w r = no_step 11 (omega arith)
    did_barrier t kt l false b wb rb e q w r = no_step 11 (omega arith)

    did_late : (a on b : Bool) → eqb k 64 ≡ a → ltb s.going cap ≡ on → eqb k 65 ≡ b
        → Did s k (cond a (cond on (done (begin_s J s)) (refused 15)) (cond b (done (cut_s J s)) (refused 11)))
    did_late true false b e q w = no_step 15 (omega arith)
    did_late true true b e q w = did_begin (eqb-true k 64 e) (ltb-true s.going cap q)
    did_late false on true e q w = did_cut (eqb-true k 65 w)
    did_late false on false e q w = no_step 11 (omega arith)

    did_pick : (a b c : Bool) (o₁ o₂ o₃ o₄ : Out (Run R Car)) → (a ≡ true → Did s k o₁)
        → (a ≡ false → b ≡ true → Did s k o₂) → (b ≡ false → c ≡ true → Did s k o₃) → (c ≡ false → Did s k o₄)
        → Did s k (cond a o₁ (cond b o₂ (cond c o₃ o₄)))
    did_pick true b c o₁ o₂ o₃ o₄ f₁ f₂ f₃ f₄ = f₁ refl
    did_pick false true c o₁ o₂ o₃ o₄ f₁ f₂ f₃ f₄ = f₂ refl refl
    did_pick false false true o₁ o₂ o₃ o₄ f₁ f₂ f₃ f₄ = f₃ refl refl
    did_pick false false false o₁ o₂ o₃ o₄ f₁ f₂ f₃ f₄ = f₄ refl

    pub did : Did s k (step_f J s k)
    did = did_pick (ltb k 32) (ltb k 48) (ltb k 64) _ _ _ _
        (λ e. did_channel (ltb-true k 32 e) (ltb k m) (blocked J s k) refl refl)
        (λ e q. let l : 32 ≤ k = ltb-false k 32 e in
        did_source (k - 32) (omega arith) (ltb-true k 48 q) (ltb (k - 32) n) (src (k - 32)) refl refl)
        (λ e q. let l : 48 ≤ k = ltb-false k 48 e in
        did_barrier (k - 48) (omega arith) (ltb-true k 64 q) (ltb (k - 48) n) (src (k - 48)) (ltb 0
        (s.wait (k - 48))) (room_b J s (k - 48)) refl refl refl refl)
        (λ e. did_late (eqb k 64) (ltb s.going cap) (eqb k 65) refl refl refl)
