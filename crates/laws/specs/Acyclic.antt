-- Walks along the channels, and what it takes that none returns (document 01, answer 8). Back channels (request n) are left out of
-- walks; in the base there are none. `cyclic` computes whether some walk returns, by Warshall's closure; that it says so exactly
-- when a walk does, and that without one the tasks can be ranked, stands in proofs/Acyclic.antt.
use Rattle.std.specs.Prelude.{◌≡◌, Bool, false, cond, List, [], ◌∷◌, ℕ, zero, suc, ◌<◌, eqb}
use Rattle.laws.specs.Received.{Graph}
use Rattle.laws.specs.Below.{both, either, any_n}

module _ {R : Type 0} (g : Graph R) (back : ℕ → Bool) where
  open g use {n, m, from, to}

  -- a walk along one or more channels
  pub data Walk : ℕ → ℕ → Type 0 where
    edge : (c : ℕ) → c < m → back c ≡ false → Walk (from c) (to c)
    then : {a : ℕ} (c : ℕ) → c < m → back c ≡ false → Walk a (from c) → Walk a (to c)

  -- a walk along any number of channels, none included
  pub data Reach : ℕ → ℕ → Type 0 where
    here : {t : ℕ} → Reach t t
    along : {t : ℕ} (c : ℕ) → c < m → back c ≡ false → Reach t (from c) → Reach t (to c)

  -- there is a walk from a to b whose inner tasks are below k
  abbrev pub reach : ℕ → ℕ → ℕ → Bool
  reach zero a b = any_n m (λ c. cond (back c) false (both (eqb (from c) a) (eqb (to c) b)))
  reach (suc k) a b = either (reach k a b) (both (reach k a k) (reach k k b))

  -- ANSWER 8, computed: some task reaches itself
  abbrev pub cyclic : Bool
  cyclic = any_n n (λ t. reach n t t)

  -- a rank below n that grows along each channel
  pub record Ranked : Type 0 where
    pub rank : ℕ → ℕ
    pub rank_lt : (t : ℕ) → t < n → rank t < n
    pub rank_up : (c : ℕ) → c < m → back c ≡ false → rank (from c) < rank (to c)

-- every element of a list has a property
abbrev pub Each : {A : Type 0} → (A → Type 0) → List A → Type 0
Each P [] = Unit {0}
Each P (x ∷ xs) = P x × Each P xs

-- the ends are tasks, and a measure below `depth` of a record at a task grows with each send, so that no record travels for ever.
-- Without back channels it is the task's rank; with them, round and rank
pub record Measured {R : Type 0} (g : Graph R) : Type 0 where
  pub from_ok : (c : ℕ) → c < g.m → g.from c < g.n
  pub to_ok : (c : ℕ) → c < g.m → g.to c < g.n
  pub size : ℕ → R → ℕ
  pub size_lt : (t : ℕ) (r : R) → t < g.n → size t r < g.depth
  pub size_up : (c : ℕ) (r : R) → c < g.m → Each (λ x. size (g.from c) r < size (g.to c) x) (g.sends c r)
