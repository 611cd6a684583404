-- The values of records in channels and at tasks, for any values W that satisfy the push equation: what a record is worth at t is δ
-- there and what is sent on for it. The law of conservation and the count of steps left are two uses.
use mathlib.Core.Path.{◌≡◌, sym, ap, ◌∙◌}
use mathlib.Core.List.{List, [], ◌∷◌, ◌++◌}
use Prim.Native.Nat.{ℕ, ◌<◌}
use lib.Dec.{eqb}
use lib.ListN.{take, drop, take-append-drop}
use Rattle.laws.specs.Received.{keep, Graph}
use Rattle.laws.specs.Sums.{CMon, pick, sum_n, sum_l}
use Rattle.laws.specs.Value.{worth, flow}
use Rattle.laws.proofs.Sums.{left_comm, sum_ext, sum_op, sum_unit, sum_at, sum_l-append, sum_l_one, sum_l_keep}

-- what t sends on for r is put behind what is pending
abbrev pub Sent : {R : Type 0} (g : Graph R) → ℕ → R → (ℕ → List R) → (ℕ → List R) → Type 0
Sent g t r pend pend' = (c : ℕ) → c < g.m → pend' c ≡ pend c ++ keep (eqb (g.from c) t) (g.sends c r)

-- E is E' with r in front at t; E is E' with r behind at t
abbrev pub Front : {R : Type 0} → ℕ → ℕ → R → (ℕ → List R) → (ℕ → List R) → Type 0
Front n t r E E' = (v : ℕ) → v < n → E v ≡ keep (eqb t v) (r ∷ []) ++ E' v

abbrev pub Back : {R : Type 0} → ℕ → ℕ → R → (ℕ → List R) → (ℕ → List R) → Type 0
Back n t r E E' = (v : ℕ) → v < n → E v ≡ E' v ++ keep (eqb t v) (r ∷ [])

module _ {R : Type 0} (M : CMon) where
  open M use {Car, op as ◌⊕◌, unit as ε}

  infixl 60 ◌⊕◌
  pub worth_ext : (n : ℕ) (F : ℕ → R → Car) (E E' : ℕ → List R) → ((v : ℕ) → v < n → E v ≡ E' v)
      → worth M n F E ≡ worth M n F E'
  worth_ext n F E E' h = sum_ext M n _ _ (λ v l. ap (sum_l M (F v)) (h v l))

  pub worth-nil : (n : ℕ) (F : ℕ → R → Car) (E : ℕ → List R) → ((v : ℕ) → v < n → E v ≡ []) → worth M n F E ≡ ε
  worth-nil n F E h = worth_ext n F E (λ v. []) h ∙ sum_unit M n

  one_worth : (n t : ℕ) (r : R) (F : ℕ → R → Car) → t < n
      → sum_n M n (λ v. sum_l M (F v) (keep (eqb t v) (r ∷ []))) ≡ F t r
  one_worth n t r F l =
      sum_ext M n _ _ (λ v lv. sum_l_keep M (eqb t v) (F v) (r ∷ []) ∙ ap (pick M (eqb t v)) (sum_l_one M (F v) r))
      ∙ sum_at M n t (λ v. F v r) l

  pub worth_front : (n t : ℕ) (r : R) (F : ℕ → R → Car) (E E' : ℕ → List R) → t < n → Front n t r E E'
      → worth M n F E ≡ F t r ⊕ worth M n F E'
  worth_front n t r F E E' l h =
      sum_ext M n _ _ (λ v lv. ap (sum_l M (F v)) (h v lv) ∙ sum_l-append M (F v) (keep (eqb t v) (r ∷ [])) (E' v))
      ∙ sum_op M n (λ v. sum_l M (F v) (keep (eqb t v) (r ∷ []))) (λ v. sum_l M (F v) (E' v))
      ∙ ap (λ z. z ⊕ worth M n F E') (one_worth n t r F l)

  pub worth_back : (n t : ℕ) (r : R) (F : ℕ → R → Car) (E E' : ℕ → List R) → t < n → Back n t r E E'
      → worth M n F E ≡ worth M n F E' ⊕ F t r
  worth_back n t r F E E' l h =
      sum_ext M n _ _ (λ v lv. ap (sum_l M (F v)) (h v lv) ∙ sum_l-append M (F v) (E' v) (keep (eqb t v) (r ∷ [])))
      ∙ sum_op M n (λ v. sum_l M (F v) (E' v)) (λ v. sum_l M (F v) (keep (eqb t v) (r ∷ [])))
      ∙ ap (λ z. worth M n F E' ⊕ z) (one_worth n t r F l)

  -- what is cut in two
  pub worth_split : (n : ℕ) (F : ℕ → R → Car) (o : ℕ → ℕ) (E : ℕ → List R)
      → worth M n F E ≡ worth M n F (λ v. take (o v) (E v)) ⊕ worth M n F (λ v. drop (o v) (E v))
  worth_split n F o E =
      sum_ext M n _ _ (λ v l. ap (sum_l M (F v)) (sym (take-append-drop (o v) (E v)))
      ∙ sum_l-append M (F v) (take (o v) (E v)) (drop (o v) (E v)))
      ∙ sum_op M n (λ v. sum_l M (F v) (take (o v) (E v))) (λ v. sum_l M (F v) (drop (o v) (E v)))

  -- the push equation
  abbrev pub Pushes : Graph R → (ℕ → R → Car) → (ℕ → R → Car) → Type 0
  Pushes g W δ = (t : ℕ) (r : R) → t < g.n
      → W t r ≡ δ t r ⊕ sum_n M g.m (λ c. pick M (eqb (g.from c) t) (sum_l M (W (g.to c)) (g.sends c r)))

  pub flow_sent : (g : Graph R) (W δ : ℕ → R → Car) → Pushes g W δ → (t : ℕ) (r : R) (pend pend' : ℕ → List R)
      → t < g.n → Sent g t r pend pend' → δ t r ⊕ flow M g W pend' ≡ flow M g W pend ⊕ W t r
  flow_sent g W δ p t r pend pend' l h =
      ap (λ z. δ t r ⊕ z)
      (sum_ext M g.m _ _
      (λ c lc. ap (sum_l M (W (g.to c))) (h c lc)
      ∙ sum_l-append M (W (g.to c)) (pend c) (keep (eqb (g.from c) t) (g.sends c r))
      ∙ ap (λ z. sum_l M (W (g.to c)) (pend c) ⊕ z) (sum_l_keep M (eqb (g.from c) t) (W (g.to c)) (g.sends c r)))
      ∙ sum_op M g.m (λ c. sum_l M (W (g.to c)) (pend c))
      (λ c. pick M (eqb (g.from c) t) (sum_l M (W (g.to c)) (g.sends c r))))
      ∙ left_comm M _ _ _ ∙ ap (λ z. flow M g W pend ⊕ z) (sym (p t r l))
