-- REQUEST n, direct evaluation and worst count as the request words them, over task and round, summed per task: they are those of
-- the graph whose records carry their round (`summed`, `worst_summed`).
use mathlib.Core.Path.{◌≡◌, refl, sym, ap, ap₂, ◌∙◌}
use mathlib.Core.Bool.{Bool, true, false, cond}
use mathlib.Core.List.{List, [], ◌∷◌}
use Prim.Native.Nat.{ℕ, zero, suc, ◌<◌, ◌≤◌}
use native.Mathlib.Omega.{arith}
use lib.Dec.{eqb, ltb}
use borrow.Author.Tests.{eq-eqb, ne_eqb, eqb-true, eqb-false, ltb-false}
use Rattle.laws.specs.Received.{concat_n, keep, flat, Graph}
use Rattle.laws.specs.Sums.{CMon, pick, sum_n, sum_l, nat_mon, counted}
use Rattle.laws.specs.Acyclic.{Each}
use Rattle.laws.specs.Rounds.{Rounded, in_round, before, sends_round, in_rounds, received_in, worst_in}
use Rattle.laws.proofs.Below.{eqb_sym}
use Rattle.laws.proofs.Sums.{pick_unit, sum_ext, sum_at, sum_l-append, sum_l_ext, sum_l_unit, sum_l_keep, sum_l-sum, sum_l_kept}
use Rattle.laws.proofs.Sums.{sum_l_flat, sum_le, pick_le, counted_flat}
use Rattle.laws.proofs.Each.{each_map, each_append, each-concat, each_keep, each_flat, each_ext}
use Rattle.laws.proofs.Rounds.{round_small}

module _ {R : Type 0} (g : Graph R) (back : ℕ → Bool) where
  open g use {m, from, to, sends}

  -- what channel c brings to its to_task for round p
  abbrev brought : ℕ → (ℕ → List R) → ℕ → ℕ → List R
  brought k E p c = cond (back c) (before [] (received_in g back k E (from c)) p) (received_in g back k E (from c) p)

  -- every round is 0 to 7
  abbrev Small : Rounded R → Type 0
  Small x = x.round ≤ 7

  small_start : (rs : List R) → Each Small (in_round 0 rs)
  small_start [] = tt
  small_start (r ∷ rs) = (omega arith, small_start rs)

  pub small_rounds : (k : ℕ) (E : ℕ → List R) (u : ℕ) → Each (λ x. x.round ≤ 7) (in_rounds g back k E u)
  small_rounds zero E u = tt
  small_rounds (suc k) E u =
      let f : ℕ → List (Rounded R) = λ c. flat (sends_round g back c) (in_rounds g back k E (from c)) in
      each_append Small (in_round 0 (E u)) (concat_n m (λ c. keep (eqb u (to c)) (f c))) (small_start (E u))
      (each-concat Small m (λ c. keep (eqb u (to c)) (f c)) (λ c. each_keep Small (eqb u (to c)) (f c)
      (each_flat Small Small (sends_round g back c) (round_small g back c) (in_rounds g back k E (from c))
      (small_rounds k E (from c)))))

  module _ (M : CMon) where
    open M use {Car, op as ◌⊕◌, unit as ε, unit_l}

    infixl 60 ◌⊕◌
    -- a sum over the records of round p
    abbrev only : ℕ → (R → Car) → Rounded R → Car
    only p φ x = pick M (eqb x.round p) (φ x.what)

    only_in : (p k : ℕ) (φ : R → Car) (rs : List R) → sum_l M (only p φ) (in_round k rs) ≡ pick M (eqb k p) (sum_l M φ rs)
    only_in p k φ [] = sym (pick_unit M (eqb k p))
    only_in p k φ (r ∷ rs) = ap (λ z. pick M (eqb k p) (φ r) ⊕ z) (only_in p k φ rs) ∙ go (eqb k p)
      where
        go : (b : Bool) → pick M b (φ r) ⊕ pick M b (sum_l M φ rs) ≡ pick M b (φ r ⊕ sum_l M φ rs)
        go true = refl
        go false = unit_l ε

    -- over a channel that is no back channel the round stays; over a back channel it grows, below 7
    sent_fwd : (p c : ℕ) (φ : R → Car) (x : Rounded R) → back c ≡ false
        → sum_l M (only p φ) (sends_round g back c x) ≡ only p (λ r. sum_l M φ (sends c r)) x
    sent_fwd p c φ x e = rw e (only_in p x.round φ (sends c x.what))

    sent_back : (p c : ℕ) (φ : R → Car) (x : Rounded R) → p < 7 → back c ≡ true
        → sum_l M (only (suc p) φ) (sends_round g back c x) ≡ only p (λ r. sum_l M φ (sends c r)) x
    sent_back p c φ x h e = rw e (go (ltb x.round 7) refl (eqb x.round p) refl)
      where
        go : (a : Bool) → ltb x.round 7 ≡ a → (b : Bool) → eqb x.round p ≡ b
            → sum_l M (only (suc p) φ) (cond a (in_round (suc x.round) (sends c x.what)) [])
            ≡ pick M b (sum_l M φ (sends c x.what))
        go true q true w = only_in (suc p) (suc x.round) φ (sends c x.what)
            ∙ ap (λ b. pick M b (sum_l M φ (sends c x.what)))
            (eq-eqb (suc x.round) (suc p) (ap suc (eqb-true x.round p w)))
        go true q false w = only_in (suc p) (suc x.round) φ (sends c x.what)
            ∙ ap (λ b. pick M b (sum_l M φ (sends c x.what)))
            (ne_eqb (suc x.round) (suc p) (λ z. eqb-false x.round p w (omega arith)))
        go false q true w = let a : 7 ≤ x.round = ltb-false x.round 7 q in
            let b : x.round ≡ p = eqb-true x.round p w in
            absurd (omega arith)
        go false q false w = refl

    sent_back_zero : (c : ℕ) (φ : R → Car) (x : Rounded R) → back c ≡ true
        → sum_l M (only 0 φ) (sends_round g back c x) ≡ ε
    sent_back_zero c φ x e = rw e (go (ltb x.round 7))
      where
        go : (a : Bool) → sum_l M (only 0 φ) (cond a (in_round (suc x.round) (sends c x.what)) []) ≡ ε
        go true = only_in 0 (suc x.round) φ (sends c x.what)
            ∙ ap (λ b. pick M b (sum_l M φ (sends c x.what))) (ne_eqb (suc x.round) 0 (omega arith))
        go false = refl

    -- over one channel: X is received with rounds, F q in round q
    over_channel_lem : (p c : ℕ) → p ≤ 7 → (φ : R → Car) (X : List (Rounded R)) (F : ℕ → List R)
        → ((q : ℕ) → q ≤ 7 → sum_l M (only q (λ r. sum_l M φ (sends c r))) X ≡ sum_l M (λ r. sum_l M φ (sends c r)) (F q))
        → (b : Bool) → back c ≡ b
        → sum_l M (λ x. sum_l M (only p φ) (sends_round g back c x)) X
        ≡ sum_l M (λ r. sum_l M φ (sends c r)) (cond b (before [] F p) (F p))
    over_channel_lem p c h φ X F ih false e = sum_l_ext M _ _ X (λ x. sent_fwd p c φ x e) ∙ ih p h
    over_channel_lem zero c h φ X F ih true e = sum_l_ext M _ (λ x. ε) X (λ x. sent_back_zero c φ x e) ∙ sum_l_unit M X
    over_channel_lem (suc p) c h φ X F ih true e =
        sum_l_ext M _ _ X (λ x. sent_back p c φ x (omega arith) e) ∙ ih p (omega arith)

    -- THE ROUNDS OF DIRECT EVALUATION: what is received with rounds has in round p what is received in round p
    pub in_round_lem : (k p : ℕ) → p ≤ 7 → (φ : R → Car) (E : ℕ → List R) (u : ℕ)
        → sum_l M (only p φ) (in_rounds g back k E u) ≡ sum_l M φ (received_in g back k E u p)
    in_round_lem zero p h φ E u = refl
    in_round_lem (suc k) p h φ E u =
        sum_l-append M (only p φ) (in_round 0 (E u)) _
        ∙ ap₂ ◌⊕◌
        (only_in p 0 φ (E u) ∙ ap (λ b. pick M b (sum_l M φ (E u))) (eqb_sym 0 p) ∙ sym (sum_l_keep M (eqb p 0) φ (E u)))
        (sum_l_kept M (only p φ) m (λ c. eqb u (to c)) (λ c. flat (sends_round g back c) (in_rounds g back k E (from c)))
        ∙ sum_ext M m _ _ (λ c l. ap (pick M (eqb u (to c)))
        (sum_l_flat M (only p φ) (sends_round g back c) (in_rounds g back k E (from c))
        ∙ over_channel_lem p c h φ (in_rounds g back k E (from c)) (received_in g back k E (from c))
        (λ q lq. in_round_lem k q lq (λ r. sum_l M φ (sends c r)) E (from c)) (back c) refl
        ∙ sym (sum_l_flat M φ (sends c) (brought k E p c))))
        ∙ sym (sum_l_kept M φ m (λ c. eqb u (to c)) (λ c. flat (sends c) (brought k E p c))))
        ∙ sym (sum_l-append M φ (keep (eqb p 0) (E u)) _)

    -- DIRECT EVALUATION OVER TASK AND ROUND, SUMMED PER TASK: every round is 0 to 7, so the rounds make up the whole
    pub summed : (k : ℕ) (φ : R → Car) (E : ℕ → List R) (u : ℕ)
        → sum_l M (λ x. φ x.what) (in_rounds g back k E u) ≡ sum_n M 8 (λ p. sum_l M φ (received_in g back k E u p))
    summed k φ E u =
        each_ext M (λ x. φ x.what) (λ x. sum_n M 8 (λ p. only p φ x)) (in_rounds g back k E u)
        (each_map Small _ (in_rounds g back k E u)
        (λ x h. sym (sum_at M 8 x.round (λ p. φ x.what) (omega arith))) (small_rounds k E u))
        ∙ sum_l-sum M 8 (λ p x. only p φ x) (in_rounds g back k E u)
        ∙ sum_ext M 8 _ _ (λ p l. in_round_lem k p (omega arith) φ E u)

-- ---- the worst count over task and round
brought_le : {R : Type 0} (F : ℕ → List R) (w : ℕ → ℕ) → ((q : ℕ) → counted (F q) ≤ w q) → (b : Bool) (p : ℕ)
    → counted (cond b (before [] F p) (F p)) ≤ cond b (before 0 w p) (w p)
brought_le F w h true zero = omega arith
brought_le F w h true (suc p) = h p
brought_le F w h false p = h p

module _ {R : Type 0} (g : Graph R) (back : ℕ → Bool) (b : ℕ → ℕ) where
  open g use {m, from, to, sends}

  module _ (E : ℕ → List R) (few : (t : ℕ) → counted (E t) ≤ b t) (one : (c : ℕ) (r : R) → counted (sends c r) ≤ 1) where
    first : (x : Bool) (u : ℕ) → counted (keep x (E u)) ≤ pick nat_mon x (b u)
    first true u = few u
    first false u = omega arith

    pub in_worst : (k u p : ℕ) → counted (received_in g back k E u p) ≤ worst_in g back b k u p
    in_worst zero u p = omega arith
    in_worst (suc k) u p =
        let F : ℕ → List R = brought g back k E p in
        let w : ℕ → ℕ = λ c. cond (back c) (before 0 (worst_in g back b k (from c)) p) (worst_in g back b k (from c) p) in
        let each : (c : ℕ) → counted (flat (sends c) (F c)) ≤ w c = λ c. omega (
          arith,
          counted_flat (sends c) (one c) (F c),
          brought_le (received_in g back k E (from c)) (worst_in g back b k (from c)) (in_worst k (from c)) (back c) p,
        ) in
        omega (
          arith,
          sum_l-append nat_mon (λ r. 1) (keep (eqb p 0) (E u)) (concat_n m (λ c. keep (eqb u (to c)) (flat (sends c) (F c)))),
          first (eqb p 0) u,
          sum_l_kept nat_mon (λ r. 1) m (λ c. eqb u (to c)) (λ c. flat (sends c) (F c)),
          sum_le m _ _ (λ c l. pick_le (eqb u (to c)) (counted (flat (sends c) (F c))) (w c) (each c)),
        )

    -- what a task receives, counted, is at most its worst count over the rounds: 17 stays silent with back channels too
    pub worst_summed : (k u : ℕ) → counted (in_rounds g back k E u) ≤ sum_n nat_mon 8 (λ p. worst_in g back b k u p)
    worst_summed k u = omega (
      arith,
      summed g back nat_mon k (λ r. 1) E u,
      sum_le 8 (λ p. counted (received_in g back k E u p)) (λ p. worst_in g back b k u p) (λ p l. in_worst k u p),
    )
