-- Small things: flags as numbers, two tests taken together, a test of all numbers below n, a table of them.
use Rattle.std.specs.Prelude.{Bool, true, false, cond, List, [], ◌∷◌, ℕ, zero, suc}

-- a flag as a number
abbrev pub bit : Bool → ℕ
bit true = 1
bit false = 0

abbrev pub both : Bool → Bool → Bool
both a b = cond a b false

abbrev pub either : Bool → Bool → Bool
either a b = cond a true b

-- every number below n passes the test
abbrev pub all_n : ℕ → (ℕ → Bool) → Bool
all_n zero b = true
all_n (suc n) b = both (b n) (all_n n b)

-- some number below n passes
abbrev pub any_n : ℕ → (ℕ → Bool) → Bool
any_n zero b = false
any_n (suc n) b = either (b n) (any_n n b)

-- the list of f 0, f 1, .. f (n-1)
abbrev pub tab : {A : Type 0} → ℕ → (ℕ → A) → List A
tab zero f = []
tab (suc n) f = f 0 ∷ tab n (λ i. f (suc i))
