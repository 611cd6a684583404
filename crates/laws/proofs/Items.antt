-- Laws of the items of a channel: how records, barriers and the records before the k-th barrier change when items are put behind or
-- the head is taken.
use mathlib.Core.Path.{◌≡◌, refl, sym, ap, ◌∙◌}
use mathlib.Core.Bool.{Bool, true, false, cond, not, false≢true}
use mathlib.Core.List.{List, [], ◌∷◌, ◌++◌, append-nil, append_assoc}
use Prim.Native.Nat.{ℕ, zero, suc, ◌+◌, ◌-◌, ◌<◌, ◌≤◌}
use native.Mathlib.Nat.{zero-add}
use native.Mathlib.Omega.{arith}
use lib.ListN.{length}
use Rattle.laws.specs.Received.{keep}
use Rattle.laws.specs.Below.{bit}
use Rattle.laws.specs.Items.{Item, barrier, rec, recs, upto, bars, as_items, tl}

module _ {R : Type 0} where
  pub recs-append : (xs ys : List (Item R)) → recs (xs ++ ys) ≡ recs xs ++ recs ys
  recs-append [] ys = refl
  recs-append (barrier ∷ xs) ys = recs-append xs ys
  recs-append (rec r ∷ xs) ys = ap {B = List R} (λ l. r ∷ l) (recs-append xs ys)

  pub recs_as_items : (rs : List R) → recs (as_items rs) ≡ rs
  recs_as_items [] = refl
  recs_as_items (r ∷ rs) = ap {B = List R} (λ l. r ∷ l) (recs_as_items rs)

  pub bars-append : (xs ys : List (Item R)) → bars (xs ++ ys) ≡ bars xs + bars ys
  bars-append [] ys = sym (zero-add (bars ys))
  bars-append (barrier ∷ xs) ys = omega (arith, bars-append xs ys)
  bars-append (rec r ∷ xs) ys = bars-append xs ys

  pub bars_as_items : (rs : List R) → bars (as_items rs) ≡ 0
  bars_as_items [] = refl
  bars_as_items (r ∷ rs) = bars_as_items rs

  -- fewer than k barriers: all records stand before the k-th
  pub upto_all : (k : ℕ) (xs : List (Item R)) → bars xs < k → upto k xs ≡ recs xs
  upto_all zero xs h = absurd (omega arith)
  upto_all (suc k) [] h = refl
  upto_all (suc k) (barrier ∷ xs) h = upto_all k xs (omega arith)
  upto_all (suc k) (rec r ∷ xs) h = ap {B = List R} (λ l. r ∷ l) (upto_all (suc k) xs h)

  -- records put behind count where there are fewer than k barriers before them
  pub upto-append : (b : Bool) (k : ℕ) (xs ys : List (Item R)) → (b ≡ true → bars xs < k)
      → (b ≡ false → k ≤ bars xs) → bars ys ≡ 0 → upto k (xs ++ ys) ≡ upto k xs ++ keep b (recs ys)
  upto-append true zero xs ys p q h = absurd (omega (arith, p refl))
  upto-append false zero xs ys p q h = refl
  upto-append true (suc k) [] ys p q h = upto_all (suc k) ys (omega arith)
  upto-append false (suc k) [] ys p q h = absurd (omega (arith, q refl))
  upto-append b (suc k) (barrier ∷ xs) ys p q h =
      upto-append b k xs ys (λ e. omega (arith, p e)) (λ e. omega (arith, q e)) h
  upto-append b (suc k) (rec r ∷ xs) ys p q h = ap {B = List R} (λ l. r ∷ l) (upto-append b (suc k) xs ys p q h)

  -- a barrier put behind changes nothing
  pub upto_bar : (b : Bool) (k : ℕ) (xs : List (Item R)) → upto k (xs ++ keep b (barrier ∷ [])) ≡ upto k xs
  upto_bar b zero xs = refl
  upto_bar true (suc zero) [] = refl
  upto_bar true (suc (suc k)) [] = refl
  upto_bar false (suc k) [] = refl
  upto_bar b (suc k) (barrier ∷ xs) = upto_bar b k xs
  upto_bar b (suc k) (rec r ∷ xs) = ap {B = List R} (λ l. r ∷ l) (upto_bar b (suc k) xs)

  -- ---- parts kept or dropped by a test
  pub keep-nil : (b : Bool) → ◌≡◌ {A = List R} (keep b []) []
  keep-nil true = refl
  keep-nil false = refl

  pub recs_keep : (b : Bool) (rs : List R) → recs (keep b (as_items rs)) ≡ keep b rs
  recs_keep true rs = recs_as_items rs
  recs_keep false rs = refl

  pub bars_keep : (b : Bool) (rs : List R) → bars (keep b (as_items rs)) ≡ 0
  bars_keep true rs = bars_as_items rs
  bars_keep false rs = refl

  pub keep_keep : (b sf st : Bool) (xs : List R) → (b ≡ true → sf ≡ st)
      → keep (not sf) (keep b xs) ≡ keep (not st) (keep b xs)
  keep_keep true sf st xs p = ap (λ z. keep (not z) xs) (p refl)
  keep_keep false sf st xs p = keep-nil (not sf) ∙ sym (keep-nil (not st))

  -- the head taken from the channel for which b holds: a record
  module _ (r : R) (rest : List (Item R)) where
    pub recs_pop : (b : Bool) (xs : List (Item R)) → (b ≡ true → xs ≡ rec r ∷ rest)
        → recs xs ≡ keep b (r ∷ []) ++ recs (cond b (tl xs) xs)
    recs_pop true xs p = rw (p refl)
    recs_pop false xs p = refl

    pub bars_pop : (b : Bool) (xs : List (Item R)) → (b ≡ true → xs ≡ rec r ∷ rest)
        → bars (cond b (tl xs) xs) ≡ bars xs
    bars_pop true xs p = rw (p refl)
    bars_pop false xs p = refl

    -- counted, and not logged (L is what is logged): it leaves the front
    pub upto_pop : (b : Bool) (k : ℕ) (L : List R) (xs : List (Item R)) → (b ≡ true → xs ≡ rec r ∷ rest)
        → (b ≡ true → 0 < k) → (b ≡ true → L ≡ [])
        → L ++ upto k xs ≡ keep b (r ∷ []) ++ (L ++ upto k (cond b (tl xs) xs))
    upto_pop true zero L xs p q w = absurd (omega (arith, q refl))
    upto_pop true (suc k) L xs p q w = rw (p refl, w refl)
    upto_pop false k L xs p q w = refl

    -- counted and logged (e): it goes over into the log; not counted: it goes
    pub upto_log : (b e : Bool) (k : ℕ) (L : List R) (xs : List (Item R)) → (b ≡ true → xs ≡ rec r ∷ rest)
        → (e ≡ true → b ≡ true) → (e ≡ true → 0 < k) → (b ≡ true → e ≡ false → k ≡ 0)
        → (L ++ keep e (r ∷ [])) ++ upto k (cond b (tl xs) xs) ≡ L ++ upto k xs
    upto_log true true zero L xs p q w z = absurd (omega (arith, w refl))
    upto_log true true (suc k) L xs p q w z = rw (p refl) (append_assoc L (r ∷ []) (upto (suc k) rest))
    upto_log true false k L xs p q w z = rw (z refl refl) (append-nil (L ++ []))
    upto_log false true k L xs p q w z = absurd (false≢true (q refl))
    upto_log false false k L xs p q w z = ap (λ l. l ++ upto k xs) (append-nil L)

  -- a barrier, and the channel is marked
  module _ (rest : List (Item R)) where
    pub recs_mark : (b : Bool) (xs : List (Item R)) → (b ≡ true → xs ≡ barrier ∷ rest)
        → recs (cond b (tl xs) xs) ≡ recs xs
    recs_mark true xs p = rw (p refl)
    recs_mark false xs p = refl

    pub bars_mark : (b : Bool) (g : ℕ) (xs : List (Item R)) → (b ≡ true → xs ≡ barrier ∷ rest)
        → bars (cond b (tl xs) xs) + (g + bit b) ≡ bars xs + g
    bars_mark true g xs p = rw (p refl) (omega arith)
    bars_mark false g xs p = omega arith

    -- the barrier that is taken was one of those before which the records count
    pub upto_mark : (b : Bool) (k k' : ℕ) (xs : List (Item R)) → (b ≡ true → xs ≡ barrier ∷ rest) → k' ≡ k - bit b
        → upto k' (cond b (tl xs) xs) ≡ upto k xs
    upto_mark true zero k' xs p e = let z : k' ≡ 0 = omega arith in rw z
    upto_mark true (suc k) k' xs p e = let z : k' ≡ k = omega arith in rw (z, p refl)
    upto_mark false k k' xs p e = let z : k' ≡ k = omega arith in rw z

  pub recs_bar : (b : Bool) (xs : List (Item R)) → recs (xs ++ keep b (barrier ∷ [])) ≡ recs xs
  recs_bar true xs = recs-append xs (barrier ∷ []) ∙ append-nil (recs xs)
  recs_bar false xs = ap recs (append-nil xs)

  pub bars_le : (xs : List (Item R)) → bars xs ≤ length xs
  bars_le [] = omega arith
  bars_le (barrier ∷ xs) = omega (arith, bars_le xs)
  bars_le (rec r ∷ xs) = omega (arith, bars_le xs)

  pub recs_none : (xs : List (Item R)) → (0 < length xs → ⊥) → recs xs ≡ []
  recs_none [] k = refl
  recs_none (x ∷ xs) k = absurd (k (omega arith))
