-- Searching among the numbers below n: one with a property, or none; one of the greatest rank with a property.
use mathlib.Core.Path.{◌≡◌, subst}
use Prim.Native.Nat.{ℕ, zero, suc, ◌+◌, ◌<◌, ◌≤◌}
use native.Mathlib.Decide.{dec_lt}
use native.Mathlib.Omega.{arith}

-- both of two properties, decided
unfoldable pub and_dec : {A B : Type 0} → Dec A → Dec B → Dec (A × B)
and_dec (yes a) (yes b) = yes (a, b)
and_dec (yes a) (no h) = no (λ p. h p.1)
and_dec (no h) d = no (λ p. h p.0)

-- a number below n with a property, or none
unfoldable pub find : (n : ℕ) (P : ℕ → Type 0) → ((i : ℕ) → Dec (P i)) → Dec ((i : ℕ) × (i < n) × P i)
find zero P dec = no (λ p. let l : p.0 < 0 = p.1 in omega arith)
find (suc n) P dec = go (dec n) (find n P dec)
  where
    up : (i : ℕ) × (i < n) × P i → (i : ℕ) × (i < suc n) × P i
    up p = (p.0, omega arith, p.2)

    down : ¬ P n → (i : ℕ) × (i < suc n) × P i → (i : ℕ) × (i < n) × P i
    down h p = (
      p.0,
      (let ne : p.0 ≡ n → ⊥ = λ e. h (subst P e p.2) in let l : p.0 < suc n = p.1 in omega arith),
      p.2,
    )

    go : Dec (P n) → Dec ((i : ℕ) × (i < n) × P i) → Dec ((i : ℕ) × (i < suc n) × P i)
    go (yes p) d = yes (n, omega arith, p)
    go (no h) (yes q) = yes (up q)
    go (no h) (no k) = no (λ p. k (down h p))

-- among the numbers below n with a property, one of the greatest rank
pub top : (n : ℕ) (rank : ℕ → ℕ) → ((i : ℕ) → i < n → rank i < n) → (P : ℕ → Type 0) → ((i : ℕ) → Dec (P i))
    → (k t : ℕ) → t < n → P t → n ≤ rank t + k
    → (i : ℕ) × (i < n) × P i × ((v : ℕ) → v < n → rank i < rank v → P v → ⊥)
top n rank rl P dec zero t lt p h = absurd (omega (arith, rl t lt))
top n rank rl P dec (suc k) t lt p h =
    go (find n (λ v. (rank t < rank v) × P v) (λ v. and_dec (dec_lt (rank t) (rank v)) (dec v))) (top n rank rl P dec k)
  where
    go : Dec ((v : ℕ) × (v < n) × ((rank t < rank v) × P v))
        → ((v : ℕ) → v < n → P v → n ≤ rank v + k
        → (i : ℕ) × (i < n) × P i × ((v : ℕ) → v < n → rank i < rank v → P v → ⊥))
        → (i : ℕ) × (i < n) × P i × ((v : ℕ) → v < n → rank i < rank v → P v → ⊥)
    go (yes q) ih = ih q.0 q.1 q.2.1 (let z : rank t < rank q.0 = q.2.0 in omega arith)
    go (no z) ih = (t, lt, p, λ v lv r q. z (v, lv, (r, q)))
