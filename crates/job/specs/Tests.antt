-- Tests over the numbers below n, lists that are filled place by place, and sweeps over a list: the words of the rules.
use Rattle.std.specs.Prelude.{Bool, true, false, ◌&&◌, ◌||◌, List, ℕ, zero, suc, set, replicate}

-- some number below n passes
unfoldable pub some : (ℕ → Bool) → ℕ → Bool
some p zero = false
some p (suc i) = some p i || p i

-- every number below n passes
unfoldable pub every : (ℕ → Bool) → ℕ → Bool
every p zero = true
every p (suc i) = every p i && p i

module _ {A : Type 0} where
  -- `size` places that hold f 0 .. f (n - 1), and d from there on
  unfoldable pub filled : ℕ → A → (ℕ → A) → ℕ → List A
  filled size d f zero = replicate size d
  filled size d f (suc i) = set (filled size d f i) i (f i)

  -- one sweep: each place below n anew, in order, from the list as it then stands
  unfoldable pub sweep : (List A → ℕ → A) → List A → ℕ → List A
  sweep anew l zero = l
  sweep anew l (suc t) = set (sweep anew l t) t (anew (sweep anew l t) t)

  -- k sweeps over the places below n
  unfoldable pub sweeps : (List A → ℕ → A) → List A → ℕ → ℕ → List A
  sweeps anew l n zero = l
  sweeps anew l n (suc k) = sweep anew (sweeps anew l n k) n
