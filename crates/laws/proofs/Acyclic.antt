-- Over the channels that are no back channels: a graph with no returning walk has a rank, and a graph with a rank has no returning
-- walk; which of the two holds is computed (`cyclic`). No pigeonhole is needed: `reach k a b` is a walk whose inner tasks are below
-- k.
use mathlib.Core.Path.{◌≡◌, refl, sym, ap, ◌∙◌, subst}
use mathlib.Core.Bool.{Bool, true, false, cond}
use mathlib.Core.Logic.{◌⊎◌, inl, inr}
use Prim.Native.Nat.{ℕ, zero, suc, ◌<◌}
use native.Mathlib.Omega.{arith}
use lib.Dec.{eqb}
use borrow.Author.Tests.{eq-eqb, eqb-true, eqb-false}
use Rattle.laws.specs.Received.{Graph}
use Rattle.laws.specs.Below.{bit, both}
use Rattle.laws.specs.Sums.{sum_n, nat_mon}
use Rattle.laws.specs.Acyclic.{Walk, edge, then, reach, cyclic, Ranked}
use Rattle.laws.proofs.Below.{both_true, both_of, either_true, either_l, either_r, any_true, any_of, open_edge}
use Rattle.laws.proofs.Sums.{count_lt, sum_ones}

module _ {R : Type 0} (g : Graph R) (back : ℕ → Bool) where
  open g use {n, m, from, to}

  -- through an inner task below k
  reach_trans : (k a j b : ℕ) → j < k → reach g back k a j ≡ true → reach g back k j b ≡ true
      → reach g back k a b ≡ true
  reach_trans zero a j b l p q = absurd (omega arith)
  reach_trans (suc k) a j b l p q = go (eqb j k) refl
      (either_true (reach g back k a j) (both (reach g back k a k) (reach g back k k j)) p)
      (either_true (reach g back k j b) (both (reach g back k j k) (reach g back k k b)) q)
      (reach_trans k)
    where
      IH : Type 0
      IH = (a j b : ℕ) → j < k → reach g back k a j ≡ true → reach g back k j b ≡ true → reach g back k a b ≡ true

      via : reach g back k a k ≡ true → reach g back k k b ≡ true → reach g back (suc k) a b ≡ true
      via x y = either_r (reach g back k a b) (both (reach g back k a k) (reach g back k k b))
          (both_of (reach g back k a k) (reach g back k k b) x y)

      go : (x : Bool) → eqb j k ≡ x
          → (reach g back k a j ≡ true) ⊎ (both (reach g back k a k) (reach g back k k j) ≡ true)
          → (reach g back k j b ≡ true) ⊎ (both (reach g back k j k) (reach g back k k b) ≡ true) → IH
          → reach g back (suc k) a b ≡ true
      go true e u v ih = via (to_k u) (from_k v)
        where
          to_k : (reach g back k a j ≡ true) ⊎ (both (reach g back k a k) (reach g back k k j) ≡ true)
              → reach g back k a k ≡ true
          to_k (inl x) = subst (λ i. reach g back k a i ≡ true) (eqb-true j k e) x
          to_k (inr x) = (both_true (reach g back k a k) (reach g back k k j) x).0

          from_k : (reach g back k j b ≡ true) ⊎ (both (reach g back k j k) (reach g back k k b) ≡ true)
              → reach g back k k b ≡ true
          from_k (inl x) = subst (λ i. reach g back k i b ≡ true) (eqb-true j k e) x
          from_k (inr x) = (both_true (reach g back k j k) (reach g back k k b) x).1
      go false e (inl x) (inl y) ih = let ne : j ≡ k → ⊥ = eqb-false j k e in
          either_l (reach g back k a b) (both (reach g back k a k) (reach g back k k b)) (ih a j b (omega arith) x y)
      go false e (inl x) (inr y) ih = let ne : j ≡ k → ⊥ = eqb-false j k e in
          let w = both_true (reach g back k j k) (reach g back k k b) y in
          via (ih a j k (omega arith) x w.0) w.1
      go false e (inr x) (inl y) ih = let ne : j ≡ k → ⊥ = eqb-false j k e in
          let w = both_true (reach g back k a k) (reach g back k k j) x in
          via w.0 (ih k j b (omega arith) w.1 y)
      go false e (inr x) (inr y) ih = via (both_true (reach g back k a k) (reach g back k k j) x).0
          (both_true (reach g back k j k) (reach g back k k b) y).1

  reach_up : (k a b : ℕ) → reach g back zero a b ≡ true → reach g back k a b ≡ true
  reach_up zero a b e = e
  reach_up (suc k) a b e =
      either_l (reach g back k a b) (both (reach g back k a k) (reach g back k k b)) (reach_up k a b e)

  -- every walk is reached
  reach_edge : (c : ℕ) → c < m → back c ≡ false → reach g back n (from c) (to c) ≡ true
  reach_edge c l e = reach_up n (from c) (to c)
      (any_of m (λ d. cond (back d) false (both (eqb (from d) (from c)) (eqb (to d) (to c)))) c l
      (ap (λ b. cond b false (both (eqb (from c) (from c)) (eqb (to c) (to c)))) e
      ∙ both_of (eqb (from c) (from c)) (eqb (to c) (to c)) (eq-eqb (from c) (from c) refl) (eq-eqb (to c)
      (to c) refl)))

  pub walk_reach : ((c : ℕ) → c < m → from c < n) → {a b : ℕ} → Walk g back a b → reach g back n a b ≡ true
  walk_reach ok (edge c l e) = reach_edge c l e
  walk_reach ok (then {a} c l e w) = reach_trans n a (from c) (to c) (ok c l) (walk_reach ok w) (reach_edge c l e)

  -- and what is reached has a walk
  join : {a j b : ℕ} → Walk g back a j → Walk g back j b → Walk g back a b
  join w (edge c l e) = then c l e w
  join w (then c l e v) = then c l e (join w v)

  pub reach_walk : (k a b : ℕ) → reach g back k a b ≡ true → Walk g back a b
  reach_walk zero a b e =
      let p = any_true m (λ c. cond (back c) false (both (eqb (from c) a) (eqb (to c) b))) e in
      let o = open_edge (back p.0) (both (eqb (from p.0) a) (eqb (to p.0) b)) p.2 in
      let q = both_true (eqb (from p.0) a) (eqb (to p.0) b) o.1 in
      subst (λ x. Walk g back x b) (eqb-true (from p.0) a q.0)
      (subst (λ y. Walk g back (from p.0) y) (eqb-true (to p.0) b q.1) (edge p.0 p.1 o.0))
  reach_walk (suc k) a b e =
      go (either_true (reach g back k a b) (both (reach g back k a k) (reach g back k k b)) e) (reach_walk k)
    where
      go : (reach g back k a b ≡ true) ⊎ (both (reach g back k a k) (reach g back k k b) ≡ true)
          → ((a b : ℕ) → reach g back k a b ≡ true → Walk g back a b) → Walk g back a b
      go (inl x) f = f a b x
      go (inr x) f = let w = both_true (reach g back k a k) (reach g back k k b) x in
          join (f a k w.0) (f k b w.1)

  pub cyclic_walk : cyclic g back ≡ true → (t : ℕ) × (t < n) × Walk g back t t
  cyclic_walk e = let p = any_true n (λ t. reach g back n t t) e in (p.0, p.1, reach_walk n p.0 p.0 p.2)

  module _ (from_ok : (c : ℕ) → c < m → from c < n) (to_ok : (c : ℕ) → c < m → to c < n) where
    pub walk_cyclic : (t : ℕ) → t < n → Walk g back t t → cyclic g back ≡ true
    walk_cyclic t l w = any_of n (λ t. reach g back n t t) t l (walk_reach from_ok w)

    -- no task reaches itself: the number of tasks that reach it is its rank
    pub ranked : cyclic g back ≡ false → Ranked g back
    ranked e = record {
      rank = λ t. sum_n nat_mon n (λ v. bit (reach g back n v t));
      rank_lt = λ t l. omega (
        arith,
        count_lt n (λ v. reach g back n v t) (λ v. true) (λ v lv x. refl) t l (not_self t l) refl,
        sum_ones n,
      );
      rank_up = λ c l b. count_lt n (λ v. reach g back n v (from c)) (λ v. reach g back n v (to c))
          (λ v lv x. reach_trans n v (from c) (to c) (from_ok c l) x (reach_edge c l b)) (from c) (from_ok c l)
          (not_self (from c) (from_ok c l)) (reach_edge c l b);
    }
      where
        not-true : (b : Bool) → (b ≡ true → ⊥) → b ≡ false
        not-true true k = absurd (k refl)
        not-true false k = refl

        not_self : (t : ℕ) → t < n → reach g back n t t ≡ false
        not_self t l = not-true (reach g back n t t)
            (λ x. let z : ◌≡◌ {A = ℕ} 1 0 = sym (ap bit (any_of n (λ t. reach g back n t t) t l x)) ∙ ap bit e in
            omega arith)

  -- the other way: with a rank no walk returns
  pub rank_walk : (G : Ranked g back) {a b : ℕ} → Walk g back a b → G.rank a < G.rank b
  rank_walk G (edge c l e) = G.rank_up c l e
  rank_walk G (then c l e w) = omega (arith, rank_walk G w, G.rank_up c l e)
