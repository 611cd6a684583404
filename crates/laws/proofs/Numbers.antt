-- REQUEST h: the numbers on barriers and the four places for half-taken totals go through each part of a step.
use mathlib.Core.Path.{◌≡◌, refl, sym, ap, ◌∙◌}
use mathlib.Core.Bool.{Bool, true, false, cond}
use mathlib.Core.List.{List, [], ◌∷◌, ◌++◌}
use Prim.Native.Nat.{ℕ, suc, ◌+◌, ◌-◌, ◌%◌, ◌<◌, ◌≤◌}
use native.Mathlib.Omega.{arith}
use lib.Dec.{eqb, ltb}
use borrow.Author.Tests.{eq-eqb, ne_eqb, eqb-true, eqb-false, ltb-true, ltb-false}
use Rattle.laws.specs.Received.{keep}
use Rattle.laws.specs.Items.{Item, barrier, rec, bars, as_items}
use Rattle.laws.specs.Run.{Run, Job, put, pop, read_s, deliver_s, mark_s, store_s, finish_s}
use Rattle.laws.specs.Invariant.{Inv}
use Rattle.laws.specs.Numbers.{Numbered, num_bar, num_rec, label, num_recs, numbered, taken}

module _ {R : Type 0} where
  pub label_as_items : (k : ℕ) (rs : List R) → label k (as_items rs) ≡ num_recs rs
  label_as_items k [] = refl
  label_as_items k (r ∷ rs) = ap {B = List (Numbered R)} (λ l. num_rec r ∷ l) (label_as_items k rs)

  pub label-append : (k : ℕ) (xs ys : List (Item R)) → label k (xs ++ ys) ≡ label k xs ++ label (k + bars xs) ys
  label-append k [] ys = let z : k ≡ k + 0 = omega arith in ap (λ j. label j ys) z
  label-append k (barrier ∷ xs) ys = let z : suc k + bars xs ≡ k + suc (bars xs) = omega arith in
      ap {B = List (Numbered R)} (λ l. num_bar (k % 4) ∷ l)
      (label-append (suc k) xs ys ∙ ap (λ j. label (suc k) xs ++ label j ys) z)
  label-append k (rec r ∷ xs) ys = ap {B = List (Numbered R)} (λ l. num_rec r ∷ l) (label-append k xs ys)

module _ (J : Job) where
  open J use {R, g, M}
  open g use {m, from, to, sends}
  open M use {Car}

  -- once the barrier at the head of d is taken, the next one has the next number
  pub head_taken : (first : ℕ) (s : Run R Car) (d : ℕ) (rest : List (Item R)) → s.chan d ≡ barrier ∷ rest
      → numbered first (mark_s J s d) d ≡ label (suc (first + s.gone d)) rest
  head_taken first s d rest hd =
      let z : first + (s.gone d + 1) ≡ suc (first + s.gone d) = omega arith in
      rw (eq-eqb d d refl, hd) (ap (λ k. label k rest) z)

  -- a store puts the number that t stores now on every output
  pub store_number : (first : ℕ) (s : Run R Car) → Inv J s → (t c : ℕ) → c < m
      → numbered first (store_s J s t) c
      ≡ numbered first s c ++ keep (eqb (from c) t) (num_bar ((first + s.stored t) % 4) ∷ [])
  store_number first s I t c l = label-append (first + s.gone c) (s.chan c) (keep (eqb (from c) t) (barrier ∷ []))
      ∙ ap (λ z. numbered first s c ++ z) (go (eqb (from c) t) refl)
    where
      go : (b : Bool) → eqb (from c) t ≡ b
          → label {R = R} (first + s.gone c + bars (s.chan c)) (keep b (barrier ∷ []))
          ≡ keep b (num_bar ((first + s.stored t) % 4) ∷ [])
      go true e =
          let z : first + s.gone c + bars (s.chan c) ≡ first + s.stored t =
          omega (arith, I.order.bar_eq c l, ap s.stored (eqb-true (from c) t e)) in
          ap {B = List (Numbered R)} (λ k. num_bar (k % 4) ∷ []) z
      go false e = refl

  -- records put behind carry no number: those that a source reads, and those sent on for a delivered record
  put_number : (k : ℕ) (ch : ℕ → List (Item R)) (t : ℕ) (r : R) (c : ℕ)
      → label k (put J ch t (λ c. as_items (sends c r)) c)
      ≡ label k (ch c) ++ keep (eqb (from c) t) (num_recs (sends c r))
  put_number k ch t r c =
      label-append k (ch c) (keep (eqb (from c) t) (as_items (sends c r))) ∙ ap (λ z. label k (ch c) ++ z) (go (eqb (from c) t))
    where
      go : (b : Bool) → label (k + bars (ch c)) (keep b (as_items (sends c r))) ≡ keep b (num_recs (sends c r))
      go true = label_as_items _ (sends c r)
      go false = refl

  pub read_number : (first : ℕ) (s : Run R Car) (t : ℕ) (r : R) (c : ℕ)
      → numbered first (read_s J s t r) c ≡ numbered first s c ++ keep (eqb (from c) t) (num_recs (sends c r))
  read_number first s t r c = put_number (first + s.gone c) s.chan t r c

  pub deliver_number : (first : ℕ) (s : Run R Car) (d : ℕ) (r : R) (c : ℕ)
      → numbered first (deliver_s J s d r) c
      ≡ label (first + s.gone c) (pop J s.chan d c) ++ keep (eqb (from c) (to d)) (num_recs (sends c r))
  deliver_number first s d r c = put_number (first + s.gone c) (pop J s.chan d) (to d) r c

  -- the oldest is complete: the numbers stay, and the next is the oldest
  pub finish_number : (first : ℕ) (s : Run R Car) (c : ℕ) → 0 < s.gone c
      → numbered (suc first) (finish_s J s) c ≡ numbered first s c
  finish_number first s c h = let z : suc first + (s.gone c - 1) ≡ first + s.gone c = omega arith in
      ap (λ k. label k (s.chan c)) z

-- ---- the four places
place_eq : (f i j : ℕ) → i < 4 → j < 4 → eqb ((f + i) % 4) ((f + j) % 4) ≡ eqb i j
place_eq f i j li lj = go (eqb i j) refl
  where
    go : (b : Bool) → eqb i j ≡ b → eqb ((f + i) % 4) ((f + j) % 4) ≡ b
    go true e = eq-eqb ((f + i) % 4) ((f + j) % 4) (ap (λ k. (f + k) % 4) (eqb-true i j e))
    go false e = let d : i ≡ j → ⊥ = eqb-false i j e in ne_eqb ((f + i) % 4) ((f + j) % 4) (λ q. omega arith)

module _ {C : Type 0} (ε : C) where
  -- a value set in the place of snapshot j, at the tasks for which b holds
  pub set_place : (f : ℕ) (slot : ℕ → ℕ → C) (j : ℕ) → j < 4 → (b : ℕ → Bool) (x : ℕ → C) (i v : ℕ)
      → taken ε f (λ k v. cond (b v) (cond (eqb k ((f + j) % 4)) (x v) (slot k v)) (slot k v)) i v
      ≡ cond (b v) (cond (eqb i j) (x v) (taken ε f slot i v)) (taken ε f slot i v)
  set_place f slot j lj b x i v = go (b v) (ltb i 4) refl
    where
      go : (y l : Bool) → ltb i 4 ≡ l
          → cond l
          (cond y (cond (eqb ((f + i) % 4) ((f + j) % 4)) (x v) (slot ((f + i) % 4) v)) (slot ((f + i) % 4) v)) ε
          ≡ cond y (cond (eqb i j) (x v) (cond l (slot ((f + i) % 4) v) ε)) (cond l (slot ((f + i) % 4) v) ε)
      go true true e = ap (λ q. cond q (x v) (slot ((f + i) % 4) v)) (place_eq f i j (ltb-true i 4 e) lj)
      go true false e = let h : 4 ≤ i = ltb-false i 4 e in sym (ap (λ q. cond q (x v) ε) (ne_eqb i j (omega arith)))
      go false true e = refl
      go false false e = refl

  -- the oldest is complete: its place is emptied, and the next number is the oldest
  pub next_oldest : (f : ℕ) (slot : ℕ → ℕ → C) → f < 4 → (i v : ℕ)
      → taken ε ((f + 1) % 4) (λ k v. cond (eqb k f) ε (slot k v)) i v ≡ taken ε f slot (suc i) v
  next_oldest f slot lf i v = go (ltb i 4) refl (ltb (suc i) 4) refl
    where
      go : (l : Bool) → ltb i 4 ≡ l → (l' : Bool) → ltb (suc i) 4 ≡ l'
          → cond l (cond (eqb (((f + 1) % 4 + i) % 4) f) ε (slot (((f + 1) % 4 + i) % 4) v)) ε
          ≡ cond l' (slot ((f + suc i) % 4) v) ε
      go true e true q =
          let h : suc i < 4 = ltb-true (suc i) 4 q in
          let z : ((f + 1) % 4 + i) % 4 ≡ (f + suc i) % 4 = omega arith in
          ap (λ b. cond b ε (slot (((f + 1) % 4 + i) % 4) v)) (ne_eqb (((f + 1) % 4 + i) % 4) f (omega arith))
          ∙ ap (λ k. slot k v) z
      go true e false q =
          let h : 4 ≤ suc i = ltb-false (suc i) 4 q in
          let l : i < 4 = ltb-true i 4 e in
          ap (λ b. cond b ε (slot (((f + 1) % 4 + i) % 4) v)) (eq-eqb (((f + 1) % 4 + i) % 4) f (omega arith))
      go false e true q = let h : suc i < 4 = ltb-true (suc i) 4 q in
          let l : 4 ≤ i = ltb-false i 4 e in
          absurd (omega arith)
      go false e false q = refl
