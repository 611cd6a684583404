-- Worked jobs, computed from the definitions: document 01's own (the station, the chains of doubled channels, too few and too many tasks, a
-- task fed by itself) and the edges of each line.
use Rattle.std.specs.Prelude.{◌≡◌, refl, Bool, false, ◌||◌, List, [], ◌∷◌, ℕ, zero, suc, ◌≤◌, ℤ, pos, negsuc, length, replicate}
use Rattle.std.proofs.Common.{ap, ap₂, arith}
use Rattle.std.proofs.lemmas.List.{get_or-replicate}
use Rattle.job.specs.Tests.{some, every, filled, sweep, sweeps}
use Rattle.job.specs.Columns.{Columns, columns, number_of, fault1, fault2, fault3, fault4, fault5, fault6}
use Rattle.job.specs.Columns.{bad_task, off_table, bad_part, bad_record, bad_records}
use Rattle.job.specs.Jobs.{job_of}
use Rattle.job.specs.Faults.{line_of, fault_of}
use Rattle.job.specs.Rules.{job_answer, first_fault, graph_faults, has_input, fault7, fault8, fault9}
use Rattle.job.specs.Rules.{strike, struck_tasks, capped, capped_inflow, worst_anew, worst_counts}

-- the worked station
abbrev pub station : Columns
station = record {
  kinds = pos 0 ∷ pos 0 ∷ pos 3 ∷ pos 2 ∷ pos 1 ∷ [];
  a = pos 0 ∷ pos 3 ∷ pos 1 ∷ negsuc 9 ∷ pos 0 ∷ [];
  b = pos 3 ∷ pos 2 ∷ pos 0 ∷ pos 10 ∷ pos 0 ∷ [];
  from = pos 0 ∷ pos 1 ∷ pos 2 ∷ pos 0 ∷ pos 3 ∷ [];
  to = pos 2 ∷ pos 2 ∷ pos 3 ∷ pos 4 ∷ pos 4 ∷ [];
  cylinders = pos 1 ∷ pos 2 ∷ pos 3 ∷ pos 1 ∷ pos 4 ∷ [];
  values = pos 7 ∷ negsuc 4 ∷ pos 40 ∷ negsuc 2 ∷ pos 9 ∷ [];
}

-- tasks with no channel and no record
abbrev pub passes : ℕ → Columns
passes n = columns (replicate n (pos 1)) (replicate n (pos 0)) (replicate n (pos 0)) [] [] [] []

-- one Pass task fed by itself
abbrev pub fed_by_itself : Columns
fed_by_itself = columns (pos 1 ∷ []) (pos 0 ∷ []) (pos 0 ∷ []) (pos 0 ∷ []) (pos 0 ∷ []) [] []

-- each number twice: first, first, first + 1, first + 1, ..
abbrev doubled : ℕ → ℕ → List ℤ
doubled first zero = []
doubled first (suc n) = pos first ∷ pos first ∷ doubled (suc first) n

-- a source of 4,096 records and n Pass tasks in a chain with doubled channels
abbrev pub chain : ℕ → Columns
chain n = record {
  kinds = pos 0 ∷ replicate n (pos 1);
  a = pos 0 ∷ replicate n (pos 0);
  b = pos 4096 ∷ replicate n (pos 0);
  from = doubled 0 n;
  to = doubled 1 n;
  cylinders = replicate 4096 (pos 1);
  values = replicate 4096 (pos 0);
}

-- ---- its 4,096 cylinders are in order: by a law, since to compute it place by place would take a minute
ones_fine : (n k : ℕ) → k ≤ n
    → some (λ i. bad_record (number_of (replicate n (pos 1)) i) (number_of (replicate n (pos 0)) i)) k ≡ false
unfolding some bad_record
ones_fine n zero h = refl
ones_fine n (suc k) h =
    ap₂ ◌||◌ (ones_fine n k (omega arith))
    (ap₂ bad_record (get_or-replicate n k (pos 1) (pos 0) (omega arith)) (get_or-replicate n k (pos 0) (pos 0) (omega arith)))

records_fine : (n : ℕ) → fault4 (chain n).cylinders (chain n).values ≡ false
unfolding fault4 bad_records
records_fine n = ones_fine 4096 4096 (omega arith)

-- the answer, given what line 4 says
abbrev answer_with : Columns → Bool → ℕ
answer_with J line4 =
    first_fault
    (fault1 J.kinds J.a J.b
    ∷ fault2 J.from J.to
    ∷ fault3 J.kinds J.a J.b
    ∷ line4
    ∷ fault5 J.kinds J.a J.b (length J.cylinders)
    ∷ fault6 J.from J.to (length J.kinds)
    ∷ graph_faults (job_of J))
    1

by_line4 : (n : ℕ) → job_answer (chain n) ≡ answer_with (chain n) false
unfolding job_answer
by_line4 n = ap (answer_with (chain n)) (records_fine n)

pub table :
    (job_answer (passes 0) ≡ 1)
    × (job_answer (passes 17) ≡ 1)
    × (job_answer fed_by_itself ≡ 8)
    × (job_answer (chain 8) ≡ 0)
    × (job_answer (chain 9) ≡ 9)
    × (job_answer station ≡ 0)
unfolding some every filled sweep sweeps job_of job_answer first_fault capped capped_inflow
    fault1 fault2 fault3 fault4 fault5 fault6 bad_task off_table bad_part bad_record bad_records
    has_input fault7 fault8 fault9 strike struck_tasks worst_anew worst_counts
table = (refl, refl, refl, by_line4 8, by_line4 9, refl)

-- each line has its own number, and the number names the line
pub lines :
    (line_of (fault_of 1) ≡ 1)
    × (line_of (fault_of 2) ≡ 2)
    × (line_of (fault_of 3) ≡ 3)
    × (line_of (fault_of 4) ≡ 4)
    × (line_of (fault_of 5) ≡ 5)
    × (line_of (fault_of 6) ≡ 6)
    × (line_of (fault_of 7) ≡ 7)
    × (line_of (fault_of 8) ≡ 8)
    × (line_of (fault_of 9) ≡ 9)
lines = (refl, refl, refl, refl, refl, refl, refl, refl, refl)
