-- What `totals` prints for an accepted job is direct evaluation's; `trace` shows one run; the worked station's output. Assumes nothing.
use mathlib.Core.Path.{◌≡◌, refl, sym, ap, ◌∙◌}
use mathlib.Core.Bool.{false}
use mathlib.Core.List.{List, [], ◌∷◌, ◌++◌}
use Prim.Native.Nat.{ℕ, zero, suc, ◌≤◌}
use native.Mathlib.Omega.{arith}
use lib.ListN.{length, take, get_or}
use lib.Seq.{take-suc, take_all}
use Rattle.kinds.specs.Kinds.{sent_on}
use Rattle.job.specs.Tests.{some, every, filled, sweep, sweeps}
use Rattle.job.specs.Columns.{Columns, fault1, fault2, fault3, fault4, fault5, fault6, bad_task, off_table, bad_part, bad_record, bad_records}
use Rattle.job.specs.Jobs.{job_of, place_of}
use Rattle.job.specs.Rules.{job_answer, first_fault, has_input, fault7, fault8, fault9}
use Rattle.job.specs.Rules.{strike, struck_tasks, capped, capped_inflow, worst_anew, worst_counts}
use Rattle.job.specs.Graph.{sent_over}
use Rattle.job.specs.Table.{station}
use Rattle.direct.specs.declared.Directed.{Directed}
use Rattle.direct.specs.Direct.{read_by, received_by, direct_totals, fault35, totals_of_all, directed_of}
use Rattle.run.specs.declared.Run.{Run}
use Rattle.run.specs.Runs.{fresh_run}
use Rattle.drain.specs.declared.Drained.{Drained}
use Rattle.station.specs.Entries.{step_on, drain_on}
use Rattle.promises.specs.Grown.{after_steps, grown, whole_parts}
use Rattle.promises.proofs.Promised.{grown_runs, drain_ends}
use Rattle.rows.specs.Decimals.{digits_in, digits, decimal}
use Rattle.rows.specs.Rows.{fields_of}
use Rattle.traced.specs.Lines.{lines_to}
use Rattle.traced.specs.Traces.{run_after}
use Rattle.table.specs.Tables.{header, listed, drained}
use Rattle.table.proofs.Answers.{answer_table, table_done}
use Rattle.printed.specs.Printed.{TotalsDirect, OneRun, WorkedTotals}

module _ (J : Columns) (ok : job_answer J ≡ 0) (numbers : List ℕ) where
  -- the list of steps leads to a grown run
  listed_grown : (listed J numbers).run ≡ grown J numbers
  unfolding listed after_steps
  listed_grown = (grown_runs J ok []).list_grown numbers

  drained_grown : drained J numbers ≡ drain_on J (grown J numbers) 67108864
  unfolding drained
  drained_grown = ap (λ (r : Run). drain_on J r 67108864) listed_grown

  ended : (drained J numbers).answer ≡ 0
  ended = ap (λ (d : Drained). d.answer) drained_grown ∙ (drain_ends J ok numbers 67108864).enough (omega arith)

  live : (drained J numbers).run.live ≡ (directed_of J (whole_parts J)).totals
  live =
      let D = drain_ends J ok numbers 67108864 in
      ap (λ (d : Drained). d.run.live) drained_grown ∙ sym (ap (λ (d : Directed). d.totals) (D.totals (D.enough (omega arith))))

pub totals_direct : TotalsDirect
totals_direct J ok numbers =
    sym (answer_table J numbers false (job_answer J) refl ok refl)
    ∙ table_done (length J.kinds) (drained J numbers) (ended J ok numbers)
    ∙ ap (λ l. header ++ lines_to [] l (length J.kinds)) (live J ok numbers)

-- ---- the steps one by one
after_more : (J : Columns) (run : Run) (ks : List ℕ) (k : ℕ) → after_steps J run (ks ++ (k ∷ [])) ≡ (step_on J (after_steps J run ks) k).run
unfolding after_steps
after_more J run [] k = refl
after_more J run (x ∷ ks) k = after_more J (step_on J run x).run ks k

run_grown : (J : Columns) (numbers : List ℕ) (k : ℕ) → k ≤ length numbers → run_after J numbers k ≡ grown J (take k numbers)
unfolding run_after after_steps
run_grown J numbers zero h = refl
run_grown J numbers (suc k) h =
    ap (λ (r : Run). (step_on J r (get_or numbers k 0)).run) (run_grown J numbers k (omega arith))
    ∙ sym (after_more J fresh_run (take k numbers) (get_or numbers k 0))
    ∙ ap (grown J) (sym (take-suc numbers k 0 (omega arith)))

pub one_run : OneRun
one_run J ok numbers =
    run_grown J numbers (length numbers) (omega arith)
    ∙ ap (grown J) (take_all (length numbers) numbers (omega arith))
    ∙ sym (listed_grown J ok numbers)

-- ---- the worked station
accepted : job_answer station ≡ 0
unfolding some every filled sweep sweeps job_of job_answer first_fault capped capped_inflow
    fault1 fault2 fault3 fault4 fault5 fault6 bad_task off_table bad_part bad_record bad_records
    has_input fault7 fault8 fault9 strike struck_tasks worst_anew worst_counts
accepted = refl

pub worked_totals : WorkedTotals
unfolding sent_on sent_over place_of some every filled sweep sweeps job_of job_answer first_fault capped capped_inflow
    fault1 fault2 fault3 fault4 fault5 fault6 bad_task off_table bad_part bad_record bad_records
    has_input fault7 fault8 fault9 strike struck_tasks worst_anew worst_counts
    read_by received_by direct_totals fault35 totals_of_all directed_of
    digits_in digits decimal fields_of lines_to
worked_totals numbers = totals_direct station accepted numbers
