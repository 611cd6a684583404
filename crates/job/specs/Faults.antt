-- The lines of the table of job answers (document 01), a case for each, and "this paper's number" of each case.
use Rattle.std.specs.Prelude.{ℕ, cond, eqb, Result, Ok, Err, ⊤}
use Rattle.job.specs.declared.fault.Fault.{Fault}
use Rattle.job.specs.declared.fault.Fault.TheVariants.{Tasks, Channels, Kinds, Records, Parts, Ends, Inputs, Returns, WorstCount}

abbrev pub line_of : Fault → ℕ
line_of Tasks = 1
line_of Channels = 2
line_of Kinds = 3
line_of Records = 4
line_of Parts = 5
line_of Ends = 6
line_of Inputs = 7
line_of Returns = 8
line_of WorstCount = 9

-- the line of a number 1 to 9
abbrev pub fault_of : ℕ → Fault
fault_of n =
    cond (eqb n 1) Tasks
    (cond (eqb n 2) Channels
    (cond (eqb n 3) Kinds
    (cond (eqb n 4) Records
    (cond (eqb n 5) Parts
    (cond (eqb n 6) Ends
    (cond (eqb n 7) Inputs
    (cond (eqb n 8) Returns WorstCount)))))))

-- what a check that answers n hands back: nothing where no line holds, else the line
abbrev pub found : ℕ → Result ⊤ Fault
found n = cond (eqb n 0) (Ok tt) (Err (fault_of n))
