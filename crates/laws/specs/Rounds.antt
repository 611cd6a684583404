-- REQUEST n, the graph: a record has a round, 0 at the source; crossing a back channel adds one, and at round 7 it is not sent
-- there. `looped` is the graph whose records carry their round, so that direct evaluation, a record's value and the law of
-- conservation are those of any graph. `received_in` and `worst_in` go over task and round as the request words it;
-- proofs/RoundSums.antt ties the two.
use Rattle.std.specs.Prelude.{Bool, cond, List, [], ◌∷◌, ◌++◌, ℕ, zero, suc, ◌+◌, eqb, ltb}
use Rattle.laws.specs.Received.{concat_n, keep, flat, Graph, received}
use Rattle.laws.specs.Sums.{pick, sum_n, nat_mon}

pub record Rounded (R : Type 0) : Type 0 where
  pub what : R
  pub round : ℕ

abbrev pub in_round : {R : Type 0} → ℕ → List R → List (Rounded R)
in_round k [] = []
in_round k (r ∷ rs) = record { what = r; round = k } ∷ in_round k rs

-- so many rounds of n tasks
abbrev pub rounds : ℕ → ℕ → ℕ
rounds n zero = 0
rounds n (suc k) = rounds n k + n

-- what f gives for the round before, or e in round 0
abbrev pub before : {A : Type 0} → A → (ℕ → A) → ℕ → A
before e f zero = e
before e f (suc p) = f p

module _ {R : Type 0} (g : Graph R) (back : ℕ → Bool) where
  open g use {n, m, from, to, sends}

  -- what a channel gets for a record with its round
  abbrev pub sends_round : ℕ → Rounded R → List (Rounded R)
  sends_round c x =
      cond (back c)
      (cond (ltb x.round 7) (in_round (suc x.round) (sends c x.what)) [])
      (in_round x.round (sends c x.what))

  abbrev pub looped : Graph (Rounded R)
  looped = record { n = n; m = m; from = from; to = to; sends = sends_round; depth = rounds n 8 }

  -- direct evaluation with rounds: what task u receives, where E t are put in at each task t in round 0
  abbrev pub in_rounds : ℕ → (ℕ → List R) → ℕ → List (Rounded R)
  in_rounds k E u = received looped k (λ t. in_round 0 (E t)) u

  -- DIRECT EVALUATION OVER TASK AND ROUND: what task u receives in round p, where E t are put in at each task t in round 0; over a back
  -- channel come the records that its from_task received in the round before
  abbrev pub received_in : ℕ → (ℕ → List R) → ℕ → ℕ → List R
  received_in zero E u p = []
  received_in (suc k) E u p =
      keep (eqb p 0) (E u)
      ++ concat_n m (λ c. keep (eqb u (to c)) (flat (sends c)
      (cond (back c) (before [] (received_in k E (from c)) p) (received_in k E (from c) p))))

  -- THE WORST COUNT OVER TASK AND ROUND, where b t are put in at each task t
  abbrev pub worst_in : (ℕ → ℕ) → ℕ → ℕ → ℕ → ℕ
  worst_in b zero u p = 0
  worst_in b (suc k) u p =
      pick nat_mon (eqb p 0) (b u)
      + sum_n nat_mon m (λ c. pick nat_mon (eqb u (to c))
      (cond (back c) (before 0 (worst_in b k (from c)) p) (worst_in b k (from c) p)))
