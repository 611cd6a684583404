-- Answer 9: what the code computes in sweeps, capped on the way, is the document's recursion capped (`worst_agree`), for every counts that
-- keep to the recursion; and such counts there are, and only these (`worst_counts_lem`), where no walk returns.
use mathlib.Core.Path.{◌≡◌, refl, sym, ap, ap₂, ◌∙◌}
use mathlib.Core.Bool.{Bool, true, false, cond}
use mathlib.Core.List.{List}
use mathlib.Core.Logic.{◌↔◌}
use Prim.Native.Nat.{ℕ, zero, suc, ◌+◌, ◌<◌, ◌≤◌}
use native.Mathlib.Omega.{arith}
use borrow.Author.Tests.{ltb-true, ltb-false, lt-ltb, eqb-true}
use lib.Dec.{eqb, ltb}
use lib.IntN.{nat_abs}
use lib.ListN.{get_or, replicate, length-replicate}
use Rattle.laws.specs.Sums.{nat_mon, pick, sum_n}
use Rattle.laws.specs.Acyclic.{Ranked}
use Rattle.laws.specs.Accepted.{worst}
use Rattle.laws.proofs.Sums.{sum_ext}
use Rattle.laws.proofs.Below.{eqb_sym}
use Rattle.job.specs.declared.Job.{Job}
use Rattle.job.specs.Tests.{some}
use Rattle.job.specs.Jobs.{JobSized, from_of, to_of, b_of, is_source, is_input}
use Rattle.job.specs.Graph.{graph_of, part_length}
use Rattle.job.specs.Rules.{fault7, inflow, WorstCounts, TooMany, capped, brought_by, capped_inflow, worst_anew, worst_counts, fault9}
use Rattle.job.proofs.Ints.{within_nat_abs}
use Rattle.job.proofs.Tests.{some_none, some_one, one_some}
use Rattle.job.proofs.Inputs.{source_alone}
use Rattle.job.proofs.Sweeps.{settled}

-- ---- a number kept as the limit and one
capped_cases : (x : ℕ) (P : ℕ → Type 0) → (x ≤ 1048576 → P x) → (1048576 < x → P 1048577) → P (capped x)
unfolding capped
capped_cases x P low high = go (ltb 1048576 x) refl
  where
    go : (b : Bool) → ltb 1048576 x ≡ b → P (cond b 1048577 x)
    go true e = high (ltb-true 1048576 x e)
    go false e = low (ltb-false 1048576 x e)

pub capped_le : (x : ℕ) → capped x ≤ 1048577
capped_le x = capped_cases x (λ y. y ≤ 1048577) (λ l. omega arith) (λ l. omega arith)

capped_low : (x : ℕ) → x ≤ 1048576 → capped x ≡ x
capped_low x h = capped_cases x (λ y. y ≡ x) (λ l. refl) (λ l. absurd (omega arith))

capped_high : (x : ℕ) → 1048576 < x → capped x ≡ 1048577
capped_high x h = capped_cases x (λ y. y ≡ 1048577) (λ l. absurd (omega arith)) (λ l. refl)

capped-sum : (x y : ℕ) → capped (capped x + capped y) ≡ capped (x + y)
capped-sum x y =
    capped_cases x (λ u. capped (u + capped y) ≡ capped (x + y))
    (λ lx. capped_cases y (λ v. capped (x + v) ≡ capped (x + y)) (λ ly. refl)
    (λ hy. capped_high (x + 1048577) (omega arith) ∙ sym (capped_high (x + y) (omega arith))))
    (λ hx. capped_high (1048577 + capped y) (omega arith) ∙ sym (capped_high (x + y) (omega arith)))

-- a number is above the limit when what is kept of it is
pub above_capped : (x : ℕ) → ltb 1048576 (capped x) ≡ ltb 1048576 x
above_capped x = capped_cases x (λ y. ltb 1048576 y ≡ ltb 1048576 x) (λ l. refl) (λ l. sym (lt-ltb 1048576 x l))

module _ (job : Job) (Z : JobSized job) (G : Ranked (graph_of job) (λ c. false)) where
  module _ (W : ℕ → ℕ) (H : WorstCounts job W) where
    -- ---- the sum over the inputs, where lower ranks are right
    module _ (w : List ℕ) (t : ℕ) (right : (u : ℕ) → u < job.tasks → G.rank u < G.rank t → get_or w u 0 ≡ capped (W u)) where
      brought_is : (c : ℕ) → c < job.channels → brought_by job w t c ≡ capped (cond (is_input job t c) (W (from_of job c)) 0)
      brought_is c l = go (is_input job t c) refl
        where
          go : (b : Bool) → is_input job t c ≡ b → cond b (get_or w (from_of job c) 0) 0 ≡ capped (cond b (W (from_of job c)) 0)
          go true e =
              let q : to_of job c ≡ t = eqb-true (to_of job c) t e in
              right (from_of job c) (Z.from_task c l) (omega (arith, G.rank_up c l refl, ap G.rank q))
          go false e = sym (capped_low 0 (omega arith))

      inflow_is : (i : ℕ) → i ≤ job.channels → capped_inflow job w t i ≡ capped (inflow job W t i)
      unfolding capped_inflow inflow
      inflow_is zero h = sym (capped_low 0 (omega arith))
      inflow_is (suc i) h =
          ap₂ (λ x y. capped (x + y)) (inflow_is i (omega arith)) (brought_is i (omega arith))
          ∙ capped-sum (inflow job W t i) (cond (is_input job t i) (W (from_of job i)) 0)

    anew_is : (w : List ℕ) (t : ℕ) → t < job.tasks → ((u : ℕ) → u < job.tasks → G.rank u < G.rank t → get_or w u 0 ≡ capped (W u))
        → worst_anew job w t ≡ capped (W t)
    unfolding worst_anew
    anew_is w t lt right = go (is_source job t) refl
      where
        go : (b : Bool) → is_source job t ≡ b → cond b (nat_abs (b_of job t)) (capped_inflow job w t job.channels) ≡ capped (W t)
        go true e =
            let low : nat_abs (b_of job t) ≤ 4096 = within_nat_abs (b_of job t) 4096 (Z.part_length t lt e) in
            sym (capped_low (nat_abs (b_of job t)) (omega arith)) ∙ ap capped (sym (H.of_source t lt e))
        go false e = inflow_is w t right job.channels (omega arith) ∙ ap capped (sym (H.of_other t lt e))

    -- WHAT THE CODE COMPUTES is the recursion's count, capped
    pub worst_agree : (t : ℕ) → t < job.tasks → get_or (worst_counts job) t 0 ≡ capped (W t)
    unfolding worst_counts
    worst_agree t lt =
        settled (worst_anew job) job.tasks 0 G.rank (λ t. capped (W t)) anew_is (replicate 16 0)
        (omega (arith, Z.few_tasks, length-replicate {A = ℕ} 16 0)) job.tasks t lt (G.rank_lt t lt)

    pub above_is : (t : ℕ) → t < job.tasks → ltb 1048576 (get_or (worst_counts job) t 0) ≡ ltb 1048576 (W t)
    above_is t lt = ap (ltb 1048576) (worst_agree t lt) ∙ above_capped (W t)

  pub too_many : TooMany job → fault9 job ≡ true
  unfolding fault9
  too_many T =
      one_some _ job.tasks T.task T.is_task
      (above_is T.worst T.counts T.task T.is_task ∙ lt-ltb 1048576 (T.worst T.task) T.above)

  -- ---- counts that keep to the recursion
  abbrev pub worst_of : ℕ → ℕ
  worst_of t = worst (graph_of job) (part_length job) job.tasks t

  -- more fuel than the rank makes no difference
  stable : (k t : ℕ) → G.rank t < k → worst (graph_of job) (part_length job) (suc k) t ≡ worst (graph_of job) (part_length job) k t
  stable zero t h = absurd (omega arith)
  stable (suc k) t h =
      ap (λ x. part_length job t + x) (sum_ext nat_mon job.channels _ _ (λ c l. each c l (eqb t (to_of job c)) refl (stable k (from_of job c))))
    where
      each : (c : ℕ) → c < job.channels → (b : Bool) → eqb t (to_of job c) ≡ b
          → (G.rank (from_of job c) < k → worst (graph_of job) (part_length job) (suc k) (from_of job c) ≡ worst (graph_of job) (part_length job) k (from_of job c))
          → pick nat_mon b (worst (graph_of job) (part_length job) (suc k) (from_of job c)) ≡ pick nat_mon b (worst (graph_of job) (part_length job) k (from_of job c))
      each c l true e ih =
          let q : t ≡ to_of job c = eqb-true t (to_of job c) e in
          ih (omega (arith, G.rank_up c l refl, ap G.rank q))
      each c l false e ih = refl

  inflow-sum : (W : ℕ → ℕ) (t i : ℕ) → sum_n nat_mon i (λ c. pick nat_mon (eqb t (to_of job c)) (W (from_of job c))) ≡ inflow job W t i
  unfolding inflow
  inflow-sum W t zero = refl
  inflow-sum W t (suc i) = ap₂ ◌+◌ (inflow-sum W t i) (one (eqb t (to_of job i)) ∙ ap (λ b. cond b (W (from_of job i)) 0) (eqb_sym t (to_of job i)))
    where
      one : (b : Bool) → pick nat_mon b (W (from_of job i)) ≡ cond b (W (from_of job i)) 0
      one true = refl
      one false = refl

  inflow_none : (W : ℕ → ℕ) (t i : ℕ) → ((c : ℕ) → c < i → is_input job t c ≡ false) → inflow job W t i ≡ 0
  unfolding inflow
  inflow_none W t zero h = refl
  inflow_none W t (suc i) h =
      ap₂ ◌+◌ (inflow_none W t i (λ c l. h c (omega arith))) (ap (λ b. cond b (W (from_of job i)) 0) (h i (omega arith)))

  unfolded : (t : ℕ) → t < job.tasks → worst_of t ≡ part_length job t + inflow job worst_of t job.channels
  unfolded t lt = sym (stable job.tasks t (G.rank_lt t lt)) ∙ ap (λ x. part_length job t + x) (inflow-sum worst_of t job.channels)

  module _ (inputs : fault7 job ≡ false) where
    pub worst_counts_lem : WorstCounts job worst_of
    worst_counts_lem = record {
      of_source = λ t lt e. unfolded t lt ∙ ap₂ ◌+◌ (ap (λ b. cond b (nat_abs (b_of job t)) 0) e) (inflow_none worst_of t job.channels (source_alone job inputs t lt e))
          ∙ plus_0 (nat_abs (b_of job t));
      of_other = λ t lt e. unfolded t lt ∙ ap (λ b. cond b (nat_abs (b_of job t)) 0 + inflow job worst_of t job.channels) e
          ∙ zero_plus (inflow job worst_of t job.channels);
    }
      where
        plus_0 : (x : ℕ) → x + 0 ≡ x
        plus_0 x = omega arith

        zero_plus : (x : ℕ) → 0 + x ≡ x
        zero_plus x = omega arith

    pub worst_low : fault9 job ≡ false → (t : ℕ) → t < job.tasks → worst_of t ≤ 1048576
    unfolding fault9
    worst_low e t lt = ltb-false 1048576 (worst_of t) (sym (above_is worst_of worst_counts_lem t lt) ∙ some_none _ job.tasks e t lt)

    -- ANSWER 9, both ways
    pub worst_exact : (fault9 job ≡ true) ↔ TooMany job
    unfolding fault9
    worst_exact = (there, too_many)
      where
        there : some (λ t. ltb 1048576 (get_or (worst_counts job) t 0)) job.tasks ≡ true → TooMany job
        there e =
            let x = some_one (λ t. ltb 1048576 (get_or (worst_counts job) t 0)) job.tasks e in
            record {
              worst = worst_of;
              counts = worst_counts_lem;
              task = x.0;
              is_task = x.1;
              above = ltb-true 1048576 (worst_of x.0) (sym (above_is worst_of worst_counts_lem x.0 x.1) ∙ x.2);
            }
