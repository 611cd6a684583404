-- The rows of which the program `trace` prints a trace (`trace_of` of table/specs/Outputs.antt) for an accepted job: six fields a row, and
-- every row is a fact that can be laid beside document 01.
--   row,number,first,second,third,fourth
--   step,NUMBER,ANSWER,0,0,0                            for each step, in order
--   list,0,DONE,REFUSED,0,0                             the list of these steps
--   snapshot,TASK,COUNT,SUM,LEAST,GREATEST              for each task, if a snapshot is complete after the steps
--   live,TASK,COUNT,SUM,LEAST,GREATEST                  for each task, after the steps
--   drain,ANSWER,STEPS,0,0,0                            the drain with the limit 67,108,864
--   last,TASK,COUNT,SUM,LEAST,GREATEST                  for each task, if a snapshot is complete after the drain
--   total,TASK,COUNT,SUM,LEAST,GREATEST                 for each task, after the drain
use Rattle.std.specs.Prelude.{◌≡◌, refl, Bool, cond, List, [], ◌∷◌, ◌++◌, ℕ, zero, suc, ℤ, pos, get_or}
use Rattle.job.specs.Columns.{Columns}
use Rattle.run.specs.declared.Run.{Run}
use Rattle.run.specs.Runs.{fresh_run}
use Rattle.lists.specs.declared.Listed.{Listed}
use Rattle.drain.specs.declared.Drained.{Drained}
use Rattle.station.specs.Entries.{step_on}
use Rattle.rows.specs.Decimals.{digits_in, digits, decimal}
use Rattle.rows.specs.Rows.{fields_of, row_of}
use Rattle.traced.specs.Lines.{lines_to}

-- ---- the words, in ASCII
abbrev pub step_word : List ℕ
step_word = 115 ∷ 116 ∷ 101 ∷ 112 ∷ []

abbrev pub list_word : List ℕ
list_word = 108 ∷ 105 ∷ 115 ∷ 116 ∷ []

abbrev pub drain_word : List ℕ
drain_word = 100 ∷ 114 ∷ 97 ∷ 105 ∷ 110 ∷ []

-- `snapshot,`
abbrev pub snapshot_word : List ℕ
snapshot_word = 115 ∷ 110 ∷ 97 ∷ 112 ∷ 115 ∷ 104 ∷ 111 ∷ 116 ∷ 44 ∷ []

-- `live,`
abbrev pub live_word : List ℕ
live_word = 108 ∷ 105 ∷ 118 ∷ 101 ∷ 44 ∷ []

-- `last,`
abbrev pub last_word : List ℕ
last_word = 108 ∷ 97 ∷ 115 ∷ 116 ∷ 44 ∷ []

-- `total,`
abbrev pub total_word : List ℕ
total_word = 116 ∷ 111 ∷ 116 ∷ 97 ∷ 108 ∷ 44 ∷ []

-- `row,number,first,second,third,fourth`
abbrev pub trace_header_word : List ℕ
trace_header_word =
    114 ∷ 111 ∷ 119 ∷ 44 ∷ 110 ∷ 117 ∷ 109 ∷ 98 ∷ 101 ∷ 114 ∷ 44 ∷ 102 ∷ 105 ∷ 114 ∷ 115 ∷ 116 ∷ 44 ∷ 115 ∷ 101 ∷ 99 ∷ 111 ∷ 110
    ∷ 100 ∷ 44 ∷ 116 ∷ 104 ∷ 105 ∷ 114 ∷ 100 ∷ 44 ∷ 102 ∷ 111 ∷ 117 ∷ 114 ∷ 116 ∷ 104 ∷ []

abbrev pub trace_header : List ℕ
trace_header = row_of trace_header_word []

-- ---- a row of numbers that count or name something: a word, three of them, two zeros
abbrev pub five_of : ℕ → ℕ → ℕ → List ℤ
five_of x y z = pos x ∷ pos y ∷ pos z ∷ pos 0 ∷ pos 0 ∷ []

abbrev pub count_row : List ℕ → ℕ → ℕ → ℕ → List ℕ
count_row word x y z = row_of word (five_of x y z)

-- ---- the steps, one by one
unfoldable pub run_after : Columns → List ℕ → ℕ → Run
run_after J numbers zero = fresh_run
run_after J numbers (suc k) = (step_on J (run_after J numbers k) (get_or numbers k 0)).run

abbrev pub answer_at : Columns → List ℕ → ℕ → ℕ
answer_at J numbers k = (step_on J (run_after J numbers k) (get_or numbers k 0)).answer

unfoldable pub step_rows : Columns → List ℕ → ℕ → List ℕ
step_rows J numbers zero = []
step_rows J numbers (suc k) = step_rows J numbers k ++ count_row step_word (get_or numbers k 0) (answer_at J numbers k) 0

-- ---- what stands after the steps, and after the drain
-- as many tasks as are shown: all, or none where no snapshot is complete
abbrev pub shown_of : Bool → ℕ → ℕ
shown_of complete tasks = cond complete tasks 0

-- the last complete snapshot, if there is one, and the live totals
abbrev pub state_of : List ℕ → List ℕ → ℕ → Run → List ℕ
state_of first second tasks run = lines_to first run.last (shown_of run.complete tasks) ++ lines_to second run.live tasks

unfoldable pub after_steps : ℕ → Listed → List ℕ
after_steps tasks l = count_row list_word 0 l.done l.refused ++ state_of snapshot_word live_word tasks l.run

unfoldable pub after_drain : ℕ → Drained → List ℕ
after_drain tasks d = count_row drain_word d.answer d.steps 0 ++ state_of last_word total_word tasks d.run

-- ---- computed: `step,65,0,0,0,0` and CRLF
pub cut_row : count_row step_word 65 0 0 ≡ 115 ∷ 116 ∷ 101 ∷ 112 ∷ 44 ∷ 54 ∷ 53 ∷ 44 ∷ 48 ∷ 44 ∷ 48 ∷ 44 ∷ 48 ∷ 44 ∷ 48 ∷ 13 ∷ 10 ∷ []
unfolding fields_of decimal digits digits_in
cut_row = refl
