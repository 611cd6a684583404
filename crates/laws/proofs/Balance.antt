-- The law of conservation, `Balance`, and what keeps it: nothing changes, a task reads a record, a record is delivered. With
-- nothing under way it says that the total is direct evaluation's.
use mathlib.Core.Path.{◌≡◌, sym, ap, ap₂, ◌∙◌}
use mathlib.Core.List.{List, [], ◌∷◌}
use Prim.Native.Nat.{ℕ, ◌<◌, ◌≤◌}
use native.Mathlib.Omega.{arith}
use lib.Dec.{eqb}
use borrow.Author.Tests.{eq-eqb}
use Rattle.laws.specs.Received.{Graph, received}
use Rattle.laws.specs.Sums.{CMon, pick, sum_l, nat_mon, counted, Hom}
use Rattle.laws.specs.Acyclic.{Measured}
use Rattle.laws.specs.Value.{val, worth, flow, worth_to, Balance}
use Rattle.laws.proofs.Sums.{unit_r, sum_ext, sum_l_ext, hom_sum, hom_sum_l, sum_ge}
use Rattle.laws.proofs.Value.{sum_received, push_all, hom_val}
use Rattle.laws.proofs.Flow.{Sent, Front, Back, worth_ext, worth-nil, worth_front, worth_back, Pushes, flow_sent}

module _ {R : Type 0} (g : Graph R) (G : Measured g) (M : CMon) (φ : R → M.Car) (u : ℕ) (lu : u < g.n) where
  open g use {n, m, to, depth}
  open M use {Car, op as ◌⊕◌, unit as ε, assoc, comm, unit_l}

  infixl 60 ◌⊕◌
  δ : ℕ → R → Car
  δ t r = pick M (eqb u t) (φ r)

  pushes : Pushes M g (worth_to g M φ u) δ
  unfolding worth_to δ
  pushes t r l = push_all g M G φ u t r l

  -- nothing under way: the total is direct evaluation's
  pub balance_final : (tot : Car) (pend reads : ℕ → List R) → Balance g M φ u tot pend reads
      → ((c : ℕ) → c < m → pend c ≡ []) → tot ≡ sum_l M φ (received g depth reads u)
  unfolding Balance worth_to
  balance_final tot pend reads b p = sym (unit_r M tot)
      ∙ ap (λ z. tot ⊕ z) (sym (worth-nil M m (λ c. worth_to g M φ u (to c)) pend p)) ∙ b
      ∙ sym (sum_received g M G depth φ reads u lu)

  -- and the other way: a total that is direct evaluation's, with nothing under way
  pub balance_start : (tot : Car) (pend reads : ℕ → List R) → tot ≡ sum_l M φ (received g depth reads u)
      → ((c : ℕ) → c < m → pend c ≡ []) → Balance g M φ u tot pend reads
  unfolding Balance worth_to
  balance_start tot pend reads e p =
      ap₂ ◌⊕◌ (e ∙ sum_received g M G depth φ reads u lu) (worth-nil M m (λ c. worth_to g M φ u (to c)) pend p) ∙ unit_r M _

  -- THE LAW AS A PROMISE: a total and the values of what is pending are direct evaluation's total
  pub balance_direct : (tot : Car) (pend reads : ℕ → List R) → Balance g M φ u tot pend reads
      → tot ⊕ worth M m (λ c. val g M depth φ u (to c)) pend ≡ sum_l M φ (received g depth reads u)
  unfolding Balance worth_to
  balance_direct tot pend reads b = b ∙ sym (sum_received g M G depth φ reads u lu)

  -- the same view: nothing changes
  pub balance_same : (tot tot' : Car) (pend pend' reads reads' : ℕ → List R) → Balance g M φ u tot pend reads
      → tot' ≡ tot → ((c : ℕ) → c < m → pend' c ≡ pend c) → ((t : ℕ) → t < n → reads' t ≡ reads t)
      → Balance g M φ u tot' pend' reads'
  unfolding Balance
  balance_same tot tot' pend pend' reads reads' b e p q =
      ap₂ ◌⊕◌ e (worth_ext M m (λ c. worth_to g M φ u (to c)) pend' pend p)
      ∙ b ∙ sym (worth_ext M n (worth_to g M φ u) reads' reads q)

  -- with the record itself counted at t, what t sends on for it adds the record's value
  sent_adds : (t : ℕ) (r : R) (tot tot' : Car) (pend pend' : ℕ → List R) → t < n
      → tot' ≡ tot ⊕ pick M (eqb u t) (φ r) → Sent g t r pend pend'
      → tot' ⊕ flow M g (worth_to g M φ u) pend' ≡ tot ⊕ (flow M g (worth_to g M φ u) pend ⊕ worth_to g M φ u t r)
  unfolding δ
  sent_adds t r tot tot' pend pend' l e h = ap (λ z. z ⊕ flow M g (worth_to g M φ u) pend') e ∙ assoc _ _ _
      ∙ ap (λ z. tot ⊕ z) (flow_sent M g (worth_to g M φ u) δ pushes t r pend pend' l h)

  -- a task reads one more record
  pub balance_read : (t : ℕ) (r : R) (tot tot' : Car) (pend pend' reads reads' : ℕ → List R) → t < n
      → Balance g M φ u tot pend reads → tot' ≡ tot ⊕ pick M (eqb u t) (φ r) → Sent g t r pend pend'
      → Back n t r reads' reads → Balance g M φ u tot' pend' reads'
  unfolding Balance
  balance_read t r tot tot' pend pend' reads reads' lt b e h q =
      sent_adds t r tot tot' pend pend' lt e h ∙ sym (assoc _ _ _) ∙ ap (λ z. z ⊕ worth_to g M φ u t r) b
      ∙ sym (worth_back M n t r (worth_to g M φ u) reads' reads lt q)

  -- the head r of channel d is delivered: `rest` is what is pending without it
  pub balance_deliver : (d : ℕ) (r : R) (tot tot' : Car) (pend rest pend' reads : ℕ → List R) → d < m
      → Balance g M φ u tot pend reads → tot' ≡ tot ⊕ pick M (eqb u (to d)) (φ r) → Front m d r pend rest
      → Sent g (to d) r rest pend' → Balance g M φ u tot' pend' reads
  unfolding Balance
  balance_deliver d r tot tot' pend rest pend' reads ld b e q h =
      sent_adds (to d) r tot tot' rest pend' (G.to_ok d ld) e h
      ∙ ap (λ z. tot ⊕ z) (comm _ _ ∙ sym (worth_front M m d r (λ c. worth_to g M φ u (to c)) pend rest ld q)) ∙ b

-- the law under a map of monoids: of totals, the law of their counts
pub balance_hom : {R : Type 0} (g : Graph R) (G : Measured g) (M N : CMon) (h : Hom M N) (φ : R → M.Car) (u : ℕ)
    (lu : u < g.n) (tot : M.Car) (pend reads : ℕ → List R)
    → Balance g M φ u tot pend reads → Balance g N (λ x. h.map (φ x)) u (h.map tot) pend reads
unfolding Balance worth_to
balance_hom {R} g G M N h φ u lu tot pend reads b =
    sym (h.map_op tot (flow M g (worth_to g M φ u) pend) ∙ ap (λ z. N.op (h.map tot) z) (through g.m g.to pend))
    ∙ ap h.map b ∙ through g.n (λ v. v) reads
  where
    through : (k : ℕ) (f : ℕ → ℕ) (E : ℕ → List R)
        → h.map (worth M k (λ c. worth_to g M φ u (f c)) E)
        ≡ worth N k (λ c. worth_to g N (λ x. h.map (φ x)) u (f c)) E
    through k f E = hom_sum M N h k (λ c. sum_l M (worth_to g M φ u (f c)) (E c))
        ∙ sum_ext N k _ _
        (λ c l. hom_sum_l M N h (worth_to g M φ u (f c)) (E c)
        ∙ sum_l_ext N _ _ (E c) (λ r. hom_val g M N h g.depth φ u (f c) r))

-- a record on its way to u is not yet counted
pub balance_below : {R : Type 0} (g : Graph R) (G : Measured g) (u : ℕ) (lu : u < g.n) (tot : ℕ)
    (pend reads : ℕ → List R)
    → Balance g nat_mon (λ x. 1) u tot pend reads → (d : ℕ) → d < g.m → g.to d ≡ u → (r : R) (rest : List R)
    → pend d ≡ r ∷ rest → tot < counted (received g g.depth reads u)
unfolding Balance worth_to
balance_below {R} g G u lu tot pend reads b d ld e r rest hd =
    let w : ℕ → R → ℕ = val g nat_mon g.depth (λ x. 1) u in
    let itself : 1 ≤ w (g.to d) r = omega (
      arith,
      push_all g nat_mon G (λ x. 1) u (g.to d) r (G.to_ok d ld),
      ap (λ x. pick nat_mon x 1) (eq-eqb u (g.to d) (sym e)),
    ) in
    omega (
      arith,
      b,
      sum_received g nat_mon G g.depth (λ x. 1) reads u lu,
      sum_ge g.m d (λ c. sum_l nat_mon (w (g.to c)) (pend c)) ld,
      ap (sum_l nat_mon (w (g.to d))) hd,
    )

-- what is under way is worth no more than what was read
pub balance_flow : {R : Type 0} (g : Graph R) (G : Measured g) (u : ℕ) (lu : u < g.n) (tot : ℕ)
    (pend reads : ℕ → List R)
    → Balance g nat_mon (λ x. 1) u tot pend reads
    → worth nat_mon g.m (λ c. val g nat_mon g.depth (λ x. 1) u (g.to c)) pend
    ≤ worth nat_mon g.n (val g nat_mon g.depth (λ x. 1) u) reads
unfolding Balance worth_to
balance_flow g G u lu tot pend reads b = omega (arith, b)
