-- The step by its number against the relation `Step`: what is done is such a step (`step_ok`), every such step has a number
-- (`step_possible`), and what every part of a step keeps every step of any number keeps (`any_step`). 17 is met only where a count
-- is at its bound (`never_17`, request m).
use mathlib.Core.Path.{◌≡◌, refl, sym, ◌∙◌, subst}
use mathlib.Core.Bool.{Bool, true, false, cond, true≢false}
use mathlib.Core.List.{List, ◌∷◌}
use Prim.Native.Nat.{ℕ, ◌+◌, ◌-◌, ◌<◌, ◌≤◌}
use native.Mathlib.Omega.{arith}
use lib.Dec.{eqb, ltb, leb}
use lib.ListN.{length}
use borrow.Author.Tests.{eqb-true, lt-ltb, le-ltb, ltb-true, ltb-false}
use Rattle.laws.specs.Items.{Item, barrier, rec}
use Rattle.laws.specs.Run.{Run, Job, Plain, blocked, mark_s, store_s, begin_s, finish_s, cut_s}
use Rattle.laws.specs.Invariant.{Order, Inv}
use Rattle.laws.specs.Moves.{whole, settle, Room, Step, read, deliver, marks, completes, returns, sends_bar}
use Rattle.laws.specs.Step.{Out, done, ended, refused, after, Possible, room_b, marked_b, log_full, bar_f, head_f, step_f}
use Rattle.laws.proofs.Below.{all_of, cond_of}
use Rattle.laws.proofs.Parts.{from_drop, drop_of}
use Rattle.laws.proofs.Moves.{bar_more}
use Rattle.laws.proofs.Did.{End, end_all, end_some, end_idle, Over, Did, did_not, did_deliver, did_mark, did_complete}
use Rattle.laws.proofs.Did.{did_return, did_read, did_send, did_begin, did_cut, marked_of, did}

module _ (J : Job) where
  open J use {R, g, M, part, back, cap, full}
  open g use {n, m, from, to}
  open M use {Car}

  -- ---- what is done is a step
  unfoldable pub Ok : Run R Car → Out (Run R Car) → Type 0
  Ok s (done s') = Step J s s'
  Ok s (ended s') = Step J s s'
  Ok s (refused k) = Unit {0}

  -- a snapshot is under way: the end of a store is `settle`
  ok_end : (s s₂ : Run R Car) (o : Out (Run R Car)) → 0 < s₂.going → Step J s (settle J s₂) → End J s₂ o → Ok s o
  unfolding Ok
  ok_end s s₂ o on p (end_all e q) = subst (λ b. Step J s (cond b (finish_s J s₂) s₂)) q p
  ok_end s s₂ o on p (end_some e q) = subst (λ b. Step J s (cond b (finish_s J s₂) s₂)) q p
  ok_end s s₂ o on p (end_idle e) = absurd (true≢false (sym (lt-ltb 0 s₂.going on) ∙ e))

  -- EVERY STEP 0 TO 63 THAT IS DONE IS A STEP
  did_ok : (s : Run R Car) (k : ℕ) (o : Out (Run R Car)) → Order J s → k < 64 → Did J s k o → Ok s o
  unfolding Ok
  did_ok s k o K l (did_not a w) = tt
  did_ok s k o K l (did_deliver r rest l₁ ld mk hd rm) = deliver k r rest ld mk hd rm
  did_ok s k o K l (did_mark rest l₁ ld bd mk hd c lc tc bc mc) = marks k rest ld bd mk hd c lc tc bc mc
  did_ok s k o K l (did_complete rest l₁ ld bd mk hd all rm e) =
      ok_end s (store_s J (mark_s J s k) (to k)) o (omega (arith, bar_more J s K k rest ld hd))
      (completes k rest ld bd mk hd all rm) e
  did_ok s k o K l (did_return rest l₁ ld bd mk hd e) =
      ok_end s (mark_s J s k) o (omega (arith, bar_more J s K k rest ld hd)) (returns k rest ld bd mk hd) e
  did_ok s k o K l (did_read t r rest kt l₁ lt sr hd rm) = let q = from_drop (s.off t) (part t) rest r hd in
      read t r lt sr q.0 q.1 rm
  did_ok s k o K l (did_send t kt l₁ lt sr wt rm e) =
      ok_end s (store_s J s t) o (omega (arith, K.wait_eq t lt sr)) (sends_bar t lt sr wt rm) e
  did_ok s k o K l (did_begin e q) = absurd (omega arith)
  did_ok s k o K l (did_cut e) = absurd (omega arith)

  pub step_ok : (s : Run R Car) (k : ℕ) → Order J s → k < 64 → Ok s (step_f J s k)
  step_ok s k K l = did_ok s k (step_f J s k) K l (did J s k)

  -- WHAT EVERY STEP KEEPS: of any number, done or refused
  pub any_step : (P : Run R Car → Type 0) (s : Run R Car) (k : ℕ) → Order J s → P s
      → ((s' : Run R Car) → Step J s s' → P s') → (s.going < cap → P (begin_s J s)) → P (cut_s J s)
      → P (after s (step_f J s k))
  unfolding Ok
  any_step P s k O p f b c = go (ltb k 64) refl
    where
      ok : (o : Out (Run R Car)) → Ok s o → P (after s o)
      ok (done s') q = f s' q
      ok (ended s') q = f s' q
      ok (refused a) q = p

      late : (x y on : Bool) → ltb s.going cap ≡ on
          → P (after s (cond x (cond on (done (begin_s J s)) (refused 15)) (cond y (done (cut_s J s)) (refused 11))))
      late true y false e = p
      late true y true e = b (ltb-true s.going cap e)
      late false true on e = c
      late false false on e = p

      go : (x : Bool) → ltb k 64 ≡ x → P (after s (step_f J s k))
      go true e = ok (step_f J s k) (step_ok s k O (ltb-true k 64 e))
      go false e = let h : 64 ≤ k = ltb-false k 64 e in
          rw (le-ltb k 32 (omega arith), le-ltb k 48 (omega arith), le-ltb k 64 h)
          (late (eqb k 64) (eqb k 65) (ltb s.going cap) refl)

  -- ---- every possible step has a number
  room_is : (s : Run R Car) (t : ℕ) → Room J s t → room_b J s t ≡ true
  room_is s t h = all_of m (λ c. cond (eqb (from c) t) (ltb (length (s.chan c)) (8 + s.front c)) true)
      (λ c l. cond_of (eqb (from c) t) (ltb (length (s.chan c)) (8 + s.front c))
      (λ e. lt-ltb (length (s.chan c)) (8 + s.front c) (h c l (eqb-true (from c) t e))))

  end_possible : (s : Run R Car) (a b : Bool) → Possible (cond a (cond b (ended (finish_s J s)) (done s)) (done s))
  unfolding Possible
  end_possible s true true = tt
  end_possible s true false = tt
  end_possible s false b = tt

  deliver_possible : (s : Run R Car) (d : ℕ) → m ≤ 32 → d < m → blocked J s d ≡ false → (xs : List (Item R))
      → s.chan d ≡ xs → Possible (head_f J s d xs) → Possible (step_f J s d)
  deliver_possible s d h ld mk xs e p = rw (lt-ltb d 32 (omega arith), lt-ltb d m ld, mk, e) p

  -- without back channels nothing is logged
  pub never_logs : Plain J → (s : Run R Car) → Inv J s → (d : ℕ) → d < m → log_full J s d ≡ false
  never_logs P s I d ld = go (eqb d d) (ltb 0 (s.gone d)) refl (ltb 0 (s.stored (to d))) refl
    where
      go : (x y : Bool) → ltb 0 (s.gone d) ≡ y → (z : Bool) → ltb 0 (s.stored (to d)) ≡ z
          → cond (cond x (cond y false z) false) (leb 64 (length (s.log 0 d))) false ≡ false
      go true true e z q = refl
      go true false e true q = let a : s.gone d ≤ 0 = ltb-false 0 (s.gone d) e in
          let b : 0 < s.stored (to d) = ltb-true 0 (s.stored (to d)) q in
          absurd (omega (arith, I.order.fwd d ld (P.no_back d ld)))
      go true false e false q = refl
      go false y e z q = refl

  pub step_possible : (s s' : Run R Car) → n ≤ 16 → m ≤ 32 → ((d : ℕ) → d < m → log_full J s d ≡ false)
      → ((d : ℕ) (r : R) (rest : List (Item R)) → d < m → s.chan d ≡ rec r ∷ rest → full (s.live (to d)) ≡ false)
      → Step J s s' → (k : ℕ) × (k < 64) × Possible (step_f J s k)
  unfolding Possible
  step_possible s s' hn hm nl nf (read t r lt sr lo nxt rm) =
      let back : 32 + t - 32 ≡ t = omega arith in (
        32 + t,
        omega arith,
        rw (
          le-ltb (32 + t) 32 (omega arith),
          lt-ltb (32 + t) 48 (omega arith),
          back,
          lt-ltb t n lt,
          sr,
          drop_of (s.off t) (part t) r nxt,
          room_is s t rm,
        ) tt,
      )
  step_possible s s' hn hm nl nf (deliver d r rest ld mk hd rm) = (
    d,
    omega arith,
    deliver_possible s d hm ld mk (rec r ∷ rest) hd (rw (room_is s (to d) rm, nl d ld, nf d r rest ld hd) tt),
  )
  step_possible s s' hn hm nl nf (marks d rest ld bd mk hd c lc tc bc mc) = (
    d,
    omega arith,
    deliver_possible s d hm ld mk (barrier ∷ rest) hd (rw bd (bar_case (marked_b J (mark_s J s d) (to d)) refl)),
  )
    where
      bar_case : (b : Bool) → marked_b J (mark_s J s d) (to d) ≡ b → Possible (bar_f J s d false b)
      bar_case false e = tt
      bar_case true e = absurd (omega (arith, marked_of J (mark_s J s d) (to d) e c lc tc bc))
  step_possible s s' hn hm nl nf (completes d rest ld bd mk hd all rm) = (
    d,
    omega arith,
    deliver_possible s d hm ld mk (barrier ∷ rest) hd (rw bd (bar_case (marked_b J (mark_s J s d) (to d)))),
  )
    where
      bar_case : (b : Bool) → Possible (bar_f J s d false b)
      bar_case false = tt
      bar_case true = rw (room_is s (to d) rm)
          (end_possible (store_s J (mark_s J s d) (to d)) (ltb 0 s.going) (whole J (store_s J (mark_s J s d) (to d))))
  step_possible s s' hn hm nl nf (returns d rest ld bd mk hd) = (
    d,
    omega arith,
    deliver_possible s d hm ld mk (barrier ∷ rest) hd (rw bd
        (end_possible (mark_s J s d) (ltb 0 s.going) (whole J (mark_s J s d)))),
  )
  step_possible s s' hn hm nl nf (sends_bar t lt sr wt rm) =
      let back : 48 + t - 48 ≡ t = omega arith in (
        48 + t,
        omega arith,
        rw (
          le-ltb (48 + t) 32 (omega arith),
          le-ltb (48 + t) 48 (omega arith),
          lt-ltb (48 + t) 64 (omega arith),
          back,
          lt-ltb t n lt,
          sr,
          lt-ltb 0 (s.wait t) wt,
          room_is s t rm,
        )
            (end_possible (store_s J s t) (ltb 0 s.going) (whole J (store_s J s t))),
      )

  -- REQUEST m: 17 is never met where no count is at its bound
  end_not : (s₂ : Run R Car) (a : ℕ) (o : Out (Run R Car)) → End J s₂ o → o ≡ refused a → ⊥
  end_not s₂ a o (end_all e q) h = let z : ◌≡◌ {A = ℕ} 0 1 = cc in omega arith
  end_not s₂ a o (end_some e q) h = let z : ◌≡◌ {A = ℕ} 0 1 = cc in omega arith
  end_not s₂ a o (end_idle e) h = let z : ◌≡◌ {A = ℕ} 0 1 = cc in omega arith

  did_17 : (s : Run R Car) (k : ℕ) → (Over J s k → ⊥) → (o : Out (Run R Car)) → Did J s k o → o ≡ refused 17 → ⊥
  did_17 s k f o (did_not a w) h = f (w (cc))
  did_17 s k f o (did_deliver r rest l₁ ld mk hd rm) h = let z : ◌≡◌ {A = ℕ} 0 1 = cc in omega arith
  did_17 s k f o (did_mark rest l₁ ld bd mk hd c lc tc bc mc) h = let z : ◌≡◌ {A = ℕ} 0 1 = cc in omega arith
  did_17 s k f o (did_complete rest l₁ ld bd mk hd all rm e) h = end_not (store_s J (mark_s J s k) (to k)) 17 o e h
  did_17 s k f o (did_return rest l₁ ld bd mk hd e) h = end_not (mark_s J s k) 17 o e h
  did_17 s k f o (did_read t r rest kt l₁ lt sr hd rm) h = let z : ◌≡◌ {A = ℕ} 0 1 = cc in omega arith
  did_17 s k f o (did_send t kt l₁ lt sr wt rm e) h = end_not (store_s J s t) 17 o e h
  did_17 s k f o (did_begin e q) h = let z : ◌≡◌ {A = ℕ} 0 1 = cc in omega arith
  did_17 s k f o (did_cut e) h = let z : ◌≡◌ {A = ℕ} 0 1 = cc in omega arith

  pub never_17 : (s : Run R Car)
      → ((d : ℕ) (r : R) (rest : List (Item R)) → d < m → s.chan d ≡ rec r ∷ rest → full (s.live (to d)) ≡ false)
      → (k : ℕ) → step_f J s k ≡ refused 17 → ⊥
  never_17 s nf k h =
      did_17 s k (λ p. true≢false (sym p.4 ∙ nf k p.0 p.1 p.2 p.3)) (step_f J s k) (did J s k) h
