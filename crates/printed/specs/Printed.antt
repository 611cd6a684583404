-- What the programs print for an accepted job, said by direct evaluation and not by steps (document 01): "For the station above, with or
-- without its steps, the whole output (CRLF line ends) is a header and one line per task". So it is for every accepted job and every list
-- of steps: the drain never stops early, and the table holds direct evaluation's totals over all that the sources are to read.
use Rattle.std.specs.Prelude.{◌≡◌, false, List, [], ◌∷◌, ◌++◌, ℕ, length}
use Rattle.job.specs.Columns.{Columns}
use Rattle.job.specs.Rules.{job_answer}
use Rattle.job.specs.Table.{station}
use Rattle.direct.specs.Direct.{directed_of}
use Rattle.promises.specs.Grown.{whole_parts}
use Rattle.traced.specs.Lines.{lines_to}
use Rattle.traced.specs.Traces.{run_after}
use Rattle.table.specs.Tables.{header, listed}
use Rattle.table.specs.Outputs.{answer_to}

-- the table of direct evaluation's totals
abbrev pub direct_table : Columns → List ℕ
direct_table J = header ++ lines_to [] (directed_of J (whole_parts J)).totals (length J.kinds)

-- `totals_direct`: it is printed, whatever the steps are
abbrev pub TotalsDirect : Type 0
TotalsDirect = (J : Columns) → job_answer J ≡ 0 → (numbers : List ℕ) → answer_to false J numbers ≡ direct_table J

-- `one_run`: the run whose steps `trace` shows one by one is the run that its list of steps leads to
abbrev pub OneRun : Type 0
OneRun = (J : Columns) → job_answer J ≡ 0 → (numbers : List ℕ) → run_after J numbers (length numbers) ≡ (listed J numbers).run

-- `task,count,sum,least,greatest`, `0,3,42,-5,40`, `1,2,6,-3,9`, `2,5,48,-5,40`, `3,5,24,-2,20`, `4,7,46,-5,40`, and CRLF after each
abbrev worked_table : List ℕ
worked_table =
    116 ∷ 97 ∷ 115 ∷ 107 ∷ 44 ∷ 99 ∷ 111 ∷ 117 ∷ 110 ∷ 116 ∷ 44 ∷ 115 ∷ 117 ∷ 109 ∷ 44 ∷ 108 ∷ 101 ∷ 97 ∷ 115 ∷ 116 ∷ 44 ∷ 103
    ∷ 114 ∷ 101 ∷ 97 ∷ 116 ∷ 101 ∷ 115 ∷ 116 ∷ 13 ∷ 10
    ∷ 48 ∷ 44 ∷ 51 ∷ 44 ∷ 52 ∷ 50 ∷ 44 ∷ 45 ∷ 53 ∷ 44 ∷ 52 ∷ 48 ∷ 13 ∷ 10
    ∷ 49 ∷ 44 ∷ 50 ∷ 44 ∷ 54 ∷ 44 ∷ 45 ∷ 51 ∷ 44 ∷ 57 ∷ 13 ∷ 10
    ∷ 50 ∷ 44 ∷ 53 ∷ 44 ∷ 52 ∷ 56 ∷ 44 ∷ 45 ∷ 53 ∷ 44 ∷ 52 ∷ 48 ∷ 13 ∷ 10
    ∷ 51 ∷ 44 ∷ 53 ∷ 44 ∷ 50 ∷ 52 ∷ 44 ∷ 45 ∷ 50 ∷ 44 ∷ 50 ∷ 48 ∷ 13 ∷ 10
    ∷ 52 ∷ 44 ∷ 55 ∷ 44 ∷ 52 ∷ 54 ∷ 44 ∷ 45 ∷ 53 ∷ 44 ∷ 52 ∷ 48 ∷ 13 ∷ 10
    ∷ []

-- `worked_totals`: the worked station's whole output, byte for byte
abbrev pub WorkedTotals : Type 0
WorkedTotals = (numbers : List ℕ) → answer_to false station numbers ≡ worked_table
