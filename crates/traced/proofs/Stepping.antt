-- One step more of a list: the run after it and the row of its answer. Assumes nothing.
use mathlib.Core.Path.{◌≡◌, sym, ap, ◌∙◌}
use mathlib.Core.List.{List, ◌++◌}
use Prim.Native.Nat.{ℕ, ◌+◌}
use native.Mathlib.Numerals.{add-one}
use lib.ListN.{get_or}
use Rattle.job.specs.Columns.{Columns}
use Rattle.run.specs.declared.Run.{Run}
use Rattle.step.specs.declared.Stepped.{Stepped}
use Rattle.station.specs.Entries.{step_on}
use Rattle.traced.specs.Traces.{step_word, count_row, run_after, step_rows}

module _ (J : Columns) (numbers : List ℕ) (k : ℕ) (run : Run) (s : Stepped) (before : run ≡ run_after J numbers k)
    (is : s ≡ step_on J run (get_or numbers k 0)) where
  stepped_on : s ≡ step_on J (run_after J numbers k) (get_or numbers k 0)
  stepped_on = is ∙ ap (λ (r : Run). step_on J r (get_or numbers k 0)) before

  pub run_more : s.run ≡ run_after J numbers (k + 1)
  unfolding run_after
  run_more = ap (λ (x : Stepped). x.run) stepped_on ∙ ap (run_after J numbers) (sym (add-one k))

  pub rows_more : step_rows J numbers k ++ count_row step_word (get_or numbers k 0) s.answer 0 ≡ step_rows J numbers (k + 1)
  unfolding step_rows
  rows_more =
      ap (λ (x : Stepped). step_rows J numbers k ++ count_row step_word (get_or numbers k 0) x.answer 0) stepped_on
      ∙ ap (step_rows J numbers) (sym (add-one k))
