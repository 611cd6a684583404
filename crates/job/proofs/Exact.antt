-- THE TABLE OF JOB ANSWERS (specs/Exact.antt): each number is given exactly when its line holds and no line before it.
use mathlib.Core.Path.{◌≡◌, refl, sym, ap, ◌∙◌}
use mathlib.Core.Bool.{Bool, true, false, true≢false}
use mathlib.Core.List.{List, ◌++◌}
use mathlib.Core.Logic.{◌↔◌}
use Prim.Native.Nat.{ℕ, suc, ◌+◌, ◌<◌, ◌≤◌}
use native.Mathlib.Omega.{arith}
use borrow.Author.Tests.{eqb-true, eqb-false, ltb-true, ltb-false}
use lib.Dec.{eqb, ltb}
use lib.ListN.{get_or, get_or-eq_default}
use Rattle.job.specs.Columns.{Columns}
use Rattle.job.specs.Jobs.{job_of, JobSized}
use Rattle.job.specs.Rules.{column_faults, graph_faults, job_answer, fault8, fault9, Returning, TooMany}
use Rattle.job.specs.Exact.{Exact, None1, None2, None3, None4, None5, None6, None7, None8, None9}
use Rattle.job.proofs.First.{First, first_is, is_first, first_none, none_first}
use Rattle.job.proofs.Fine.{Fine, sized}
use Rattle.job.proofs.Walks.{walks_exact, rank_of}
use Rattle.job.proofs.Worst.{worst_exact}

not-true : (b : Bool) → (b ≡ true → ⊥) → b ≡ false
not-true true h = absurd (h refl)
not-true false h = refl

not_both : (b : Bool) → b ≡ false → b ≡ true → ⊥
not_both b f t = true≢false (sym t ∙ f)

module _ (J : Columns) where
  abbrev pub lines : List Bool
  lines = column_faults J ++ graph_faults (job_of J)

  -- the first k lines do not hold, as tests
  abbrev pub Off : ℕ → Type 0
  Off k = (j : ℕ) → j < k → get_or lines j false ≡ false

  off_none : Off 0
  off_none j l = absurd (omega arith)

  off_more : (k : ℕ) → Off k → get_or lines k false ≡ false → Off (suc k)
  off_more k o e j l = go (eqb j k) refl
    where
      go : (b : Bool) → eqb j k ≡ b → get_or lines j false ≡ false
      go true q = ap (λ i. get_or lines i false) (eqb-true j k q) ∙ e
      go false q = let ne : j ≡ k → ⊥ = eqb-false j k q in o j (omega arith)

  -- ---- lines 8 and 9 hold exactly when their tests do, once the lines before them do not
  pub fine_of : Off 6 → Fine J
  fine_of o = record {
    line1 = o 0 (omega arith);
    line2 = o 1 (omega arith);
    line3 = o 2 (omega arith);
    line4 = o 3 (omega arith);
    line5 = o 4 (omega arith);
    line6 = o 5 (omega arith);
  }

  pub sized_of : Off 7 → JobSized (job_of J)
  sized_of o = sized J (fine_of (λ j l. o j (omega arith)))

  line8_is : Off 7 → (fault8 (job_of J) ≡ true) ↔ Returning (job_of J)
  line8_is o = walks_exact (job_of J) (sized_of o)

  line9_is : Off 8 → (fault9 (job_of J) ≡ true) ↔ TooMany (job_of J)
  line9_is o =
      let o₇ : Off 7 = λ j l. o j (omega arith) in
      let Z = sized_of o₇ in
      worst_exact (job_of J) Z (rank_of (job_of J) Z (o 7 (omega arith))) (o 6 (omega arith))

  -- ---- from tests to lines
  none1 : Off 1 → None1 J
  none1 o = not_both _ (o 0 (omega arith))

  none2 : Off 2 → None2 J
  none2 o = (none1 (λ j l. o j (omega arith)), not_both _ (o 1 (omega arith)))

  none3 : Off 3 → None3 J
  none3 o = (none2 (λ j l. o j (omega arith)), not_both _ (o 2 (omega arith)))

  none4 : Off 4 → None4 J
  none4 o = (none3 (λ j l. o j (omega arith)), not_both _ (o 3 (omega arith)))

  none5 : Off 5 → None5 J
  none5 o = (none4 (λ j l. o j (omega arith)), not_both _ (o 4 (omega arith)))

  none6 : Off 6 → None6 J
  none6 o = (none5 (λ j l. o j (omega arith)), not_both _ (o 5 (omega arith)))

  none7 : Off 7 → None7 J
  none7 o = (none6 (λ j l. o j (omega arith)), not_both _ (o 6 (omega arith)))

  none8 : Off 8 → None8 J
  none8 o =
      let o₇ : Off 7 = λ j l. o j (omega arith) in
      (none7 o₇, λ r. not_both _ (o 7 (omega arith)) ((line8_is o₇).1 r))

  none9 : Off 9 → None9 J
  none9 o =
      let o₈ : Off 8 = λ j l. o j (omega arith) in
      (none8 o₈, λ r. not_both _ (o 8 (omega arith)) ((line9_is o₈).1 r))

  -- ---- from lines to tests
  off1 : None1 J → Off 1
  off1 n = off_more 0 off_none (not-true _ n)

  off2 : None2 J → Off 2
  off2 n = off_more 1 (off1 n.0) (not-true _ n.1)

  off3 : None3 J → Off 3
  off3 n = off_more 2 (off2 n.0) (not-true _ n.1)

  off4 : None4 J → Off 4
  off4 n = off_more 3 (off3 n.0) (not-true _ n.1)

  off5 : None5 J → Off 5
  off5 n = off_more 4 (off4 n.0) (not-true _ n.1)

  off6 : None6 J → Off 6
  off6 n = off_more 5 (off5 n.0) (not-true _ n.1)

  off7 : None7 J → Off 7
  off7 n = off_more 6 (off6 n.0) (not-true _ n.1)

  off8 : None8 J → Off 8
  off8 n = let o₇ = off7 n.0 in off_more 7 o₇ (not-true _ (λ e. n.1 ((line8_is o₇).0 e)))

  off9 : None9 J → Off 9
  off9 n = let o₈ = off8 n.0 in off_more 8 o₈ (not-true _ (λ e. n.1 ((line9_is o₈).0 e)))

  -- ---- the answer
  first_of : (i : ℕ) → job_answer J ≡ i + 1 → First lines i
  unfolding job_answer
  first_of i e = first_is lines 1 i (omega arith) e

  answer_of : (i : ℕ) → Off i → get_or lines i false ≡ true → job_answer J ≡ i + 1
  unfolding job_answer
  answer_of i o e = is_first lines 1 i (record { holds = e; none_before = o })

  pub all_off : job_answer J ≡ 0 → Off 9
  unfolding job_answer
  all_off e j l = first_none lines 1 (omega arith) e j

  off_accepted : Off 9 → job_answer J ≡ 0
  unfolding job_answer
  off_accepted o = none_first lines 1 (λ j. at j (ltb j 9) refl)
    where
      past : (j : ℕ) → 9 ≤ j → get_or lines j false ≡ false
      past j h = get_or-eq_default lines false h

      at : (j : ℕ) (b : Bool) → ltb j 9 ≡ b → get_or lines j false ≡ false
      at j true e = o j (ltb-true j 9 e)
      at j false e = past j (ltb-false j 9 e)

  pub exact : Exact J
  exact = record {
    given1 = (λ e. (first_of 0 e).holds, λ x. answer_of 0 off_none x);
    given2 = (λ e. let f = first_of 1 e in (none1 f.none_before, f.holds), λ x. answer_of 1 (off1 x.0) x.1);
    given3 = (λ e. let f = first_of 2 e in (none2 f.none_before, f.holds), λ x. answer_of 2 (off2 x.0) x.1);
    given4 = (λ e. let f = first_of 3 e in (none3 f.none_before, f.holds), λ x. answer_of 3 (off3 x.0) x.1);
    given5 = (λ e. let f = first_of 4 e in (none4 f.none_before, f.holds), λ x. answer_of 4 (off4 x.0) x.1);
    given6 = (λ e. let f = first_of 5 e in (none5 f.none_before, f.holds), λ x. answer_of 5 (off5 x.0) x.1);
    given7 = (λ e. let f = first_of 6 e in (none6 f.none_before, f.holds), λ x. answer_of 6 (off6 x.0) x.1);
    given8 = (
      λ e. let f = first_of 7 e in (none7 f.none_before, (line8_is f.none_before).0 f.holds),
      λ x. let o = off7 x.0 in answer_of 7 o ((line8_is o).1 x.1),
    );
    given9 = (
      λ e. let f = first_of 8 e in (none8 f.none_before, (line9_is f.none_before).0 f.holds),
      λ x. let o = off8 x.0 in answer_of 8 o ((line9_is o).1 x.1),
    );
    accepted = (λ e. none9 (all_off e), λ n. off_accepted (off9 n));
  }
