-- A record's value, and the law of conservation. A record on its way is worth, to task u, what it will still add to u's total:
-- itself where it stands at u, and what is sent on for it. The law: a task's total and the values of the records on their way make
-- up the values of the records read. It speaks of a total, the records pending in each channel and the records read, and of nothing
-- else, so that it serves the live run and every snapshot alike.
use Rattle.std.specs.Prelude.{◌≡◌, List, ℕ, zero, suc, eqb}
use Rattle.laws.specs.Received.{Graph}
use Rattle.laws.specs.Sums.{CMon, pick, sum_n, sum_l}

module _ {R : Type 0} (g : Graph R) (M : CMon) where
  open g use {m, from, to, sends}
  open M use {Car, op as ◌⊕◌, unit as ε}

  infixl 60 ◌⊕◌
  -- A RECORD'S VALUE: what r, put in at t, adds to the sum by φ over what u receives, over walks of fewer than k channels
  abbrev pub val : ℕ → (R → Car) → ℕ → ℕ → R → Car
  val zero φ u t r = ε
  val (suc k) φ u t r =
      pick M (eqb u t) (φ r)
      ⊕ sum_n M m (λ c. pick M (eqb u (to c)) (val k (λ x. sum_l M φ (sends c x)) (from c) t r))

module _ {R : Type 0} (M : CMon) where
  open M use {Car}

  -- the values of the lists E 0 .. E (n-1), where an element of E v is worth F v
  abbrev pub worth : ℕ → (ℕ → R → Car) → (ℕ → List R) → Car
  worth n F E = sum_n M n (λ v. sum_l M (F v) (E v))

  -- the values of the records pending in the channels, where a record at task t is worth W t
  abbrev pub flow : Graph R → (ℕ → R → Car) → (ℕ → List R) → Car
  flow g W pend = worth g.m (λ c. W (g.to c)) pend

module _ {R : Type 0} (g : Graph R) (M : CMon) (φ : R → M.Car) (u : ℕ) where
  open g use {n, depth}
  open M use {Car, op as ◌⊕◌}

  infixl 60 ◌⊕◌
  -- a record's value to u, with walks of every length
  unfoldable pub worth_to : ℕ → R → Car
  worth_to t r = val g M depth φ u t r

  -- THE LAW OF CONSERVATION, for a total of task u, the records pending in each channel and the records read by each task
  unfoldable pub Balance : Car → (ℕ → List R) → (ℕ → List R) → Type 0
  Balance tot pend reads = tot ⊕ flow M g worth_to pend ≡ worth M n worth_to reads
