-- What is printed in each case: the definitions, read at the tests that lead there. Assumes nothing.
use mathlib.Core.Path.{◌≡◌, sym, ap, ap₂, ◌∙◌}
use mathlib.Core.Bool.{Bool, true, false}
use mathlib.Core.List.{List, [], ◌++◌}
use Prim.Native.Nat.{ℕ, ◌≤◌}
use native.Mathlib.Omega.{arith}
use borrow.Author.Tests.{eq-eqb, ne_eqb}
use lib.IntN.{pos}
use lib.ListN.{length}
use Rattle.job.specs.Columns.{Columns}
use Rattle.job.specs.Rules.{job_answer}
use Rattle.job.proofs.Fine.{fine1}
use Rattle.job.proofs.Exact.{all_off, fine_of}
use Rattle.lists.specs.declared.Listed.{Listed}
use Rattle.drain.specs.declared.Drained.{Drained}
use Rattle.station.specs.Entries.{drain_on}
use Rattle.rows.specs.Rows.{refusal_of}
use Rattle.traced.specs.Lines.{lines_to}
use Rattle.traced.specs.Traces.{trace_header, step_rows, after_steps, after_drain}
use Rattle.table.specs.Tables.{header, listed, drained, table_of}
use Rattle.table.specs.Outputs.{trace_of, answer_to}

module _ (tasks : ℕ) (d : Drained) where
  pub table_refused : (d.answer ≡ 0 → ⊥) → table_of tasks d ≡ refusal_of (pos d.answer)
  unfolding table_of
  table_refused ne = simp (ne_eqb d.answer 0 ne)

  pub table_done : d.answer ≡ 0 → table_of tasks d ≡ header ++ lines_to [] d.run.live tasks
  unfolding table_of
  table_done e = simp (eq-eqb d.answer 0 e)

module _ (J : Columns) (numbers : List ℕ) where
  module _ (l : Listed) (d : Drained) (is : l ≡ listed J numbers) (then : d ≡ drain_on J l.run 67108864) where
    pub drained_is : d ≡ drained J numbers
    unfolding drained
    drained_is = then ∙ ap (λ (x : Listed). drain_on J x.run 67108864) is

    pub trace_is :
        trace_header
        ++ (step_rows J numbers (length numbers) ++ (after_steps (length J.kinds) l ++ after_drain (length J.kinds) d))
        ≡ trace_of J numbers
    unfolding trace_of
    trace_is =
        ap₂
        (λ (x : Listed) (y : Drained).
        trace_header
        ++ (step_rows J numbers (length numbers) ++ (after_steps (length J.kinds) x ++ after_drain (length J.kinds) y)))
        is
        drained_is

  -- the check's answer n decides
  module _ (traced : Bool) (n : ℕ) (checked : n ≡ job_answer J) where
    pub answer_refused : (n ≡ 0 → ⊥) → refusal_of (pos n) ≡ answer_to traced J numbers
    unfolding answer_to
    answer_refused ne = ap (λ (k : ℕ). refusal_of (pos k)) checked ∙ simp (ne_eqb (job_answer J) 0 (λ e. ne (checked ∙ e)))

    pub answer_traced : n ≡ 0 → traced ≡ true → trace_of J numbers ≡ answer_to traced J numbers
    unfolding answer_to
    answer_traced e f = simp (eq-eqb (job_answer J) 0 (sym checked ∙ e), f)

    pub answer_table : n ≡ 0 → traced ≡ false → table_of (length J.kinds) (drained J numbers) ≡ answer_to traced J numbers
    unfolding answer_to
    answer_table e f = simp (eq-eqb (job_answer J) 0 (sym checked ∙ e), f)

pub few_tasks : (J : Columns) → job_answer J ≡ 0 → length J.kinds ≤ 16
few_tasks J e = (fine1 J.kinds J.a J.b (fine_of J (λ j l. all_off J e j (omega arith))).line1).few_tasks
