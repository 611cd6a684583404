-- 9. THE SINGLE TABLE of document 01 (`single_table`): "Proved together as a single table over the definitions: 0 tasks, 1; 17 tasks,
-- 1; ..", an entry a line, in the document's order; -5 is `negsuc 4`. The jobs are written out in job/specs/Table.antt.
use Rattle.std.specs.Prelude.{◌≡◌, List, [], ◌∷◌, ℕ, ℤ, pos, negsuc, take}
use Rattle.tally.specs.declared.Record.{Record}
use Rattle.tally.specs.declared.Totals.{Totals}
use Rattle.std.specs.Prelude.{Option}
use Rattle.std.specs.Prelude.{None, Some}
use Rattle.kinds.specs.Kinds.{sent_on}
use Rattle.job.specs.Rules.{job_answer}
use Rattle.job.specs.Table.{station, passes, chain, fed_by_itself}
use Rattle.direct.specs.Direct.{directed_of}
use Rattle.run.specs.Runs.{fresh_run}
use Rattle.lists.specs.declared.Listed.{Listed}
use Rattle.station.specs.Entries.{step_on, steps_on, drain_on}

abbrev of : ℕ → ℤ → ℤ → ℤ → Totals
of count sum least greatest = record { count = count; sum = sum; least = least; greatest = greatest }

abbrev rec : ℕ → ℤ → Record
rec cylinder value = record { cylinder = cylinder; value = value }

-- what a task of a kind with parameters a, b sends for value v on its only output
abbrev sends : ℕ → ℤ → ℤ → ℤ → Option Record
sends kind a b v = sent_on kind a b 0 1 (rec 1 v)

-- "Steps: 32 64 48 .."
abbrev worked_steps : List ℕ
worked_steps = 32 ∷ 64 ∷ 48 ∷ 32 ∷ 0 ∷ 0 ∷ 0 ∷ 33 ∷ 33 ∷ 49 ∷ 1 ∷ 1 ∷ 1 ∷ 0 ∷ 3 ∷ 3 ∷ 2 ∷ 2 ∷ 2 ∷ 2 ∷ 4 ∷ 4 ∷ 4 ∷ 4 ∷ []

abbrev worked : Listed
worked = steps_on station fresh_run worked_steps

abbrev full_totals : List Totals
full_totals = of 3 (pos 42) (negsuc 4) (pos 40)
    ∷ of 2 (pos 6) (negsuc 2) (pos 9)
    ∷ of 5 (pos 48) (negsuc 4) (pos 40)
    ∷ of 5 (pos 24) (negsuc 1) (pos 20)
    ∷ of 7 (pos 46) (negsuc 4) (pos 40)
    ∷ []

abbrev snapshot_totals : List Totals
snapshot_totals = of 1 (pos 7) (pos 7) (pos 7)
    ∷ of 2 (pos 6) (negsuc 2) (pos 9)
    ∷ of 3 (pos 13) (negsuc 2) (pos 9)
    ∷ of 3 (pos 6) (negsuc 0) (pos 4)
    ∷ of 4 (pos 13) (negsuc 0) (pos 7)
    ∷ []

abbrev pub SingleTable : Type 0
SingleTable =
    (job_answer (passes 0) ≡ 1)
    × (job_answer (passes 17) ≡ 1)
    × (sends 3 (pos 1) (pos 0) (negsuc 4) ≡ Some (rec 1 (negsuc 1)))
    × (sends 3 (pos 30) (pos 0) (negsuc 2147483647) ≡ Some (rec 1 (negsuc 1)))
    × (sends 3 (pos 30) (pos 0) (negsuc 0) ≡ Some (rec 1 (pos 0)))
    × (sends 2 (pos 10) (negsuc 9) (pos 0) ≡ None)
    × (sent_on 5 (pos 0) (pos 0) 1 3 (rec 20 (pos 7)) ≡ Some (rec 20 (pos 7)))
    × (job_answer (chain 8) ≡ 0)
    × (job_answer (chain 9) ≡ 9)
    × (job_answer fed_by_itself ≡ 8)
    × (take 5 (directed_of station (3 ∷ 2 ∷ 0 ∷ 0 ∷ 0 ∷ [])).totals ≡ full_totals)
    × (take 5 worked.run.last ≡ snapshot_totals)
    -- beside the twelve, what the document says of the station: 23 done, 1 refused; drains of 22 steps, then of 7, and of 9 after a cut
    × ((worked.done ≡ 23) × (worked.refused ≡ 1))
    × (take 5 (drain_on station fresh_run 22).run.live ≡ full_totals)
    × ((drain_on station worked.run 7).answer ≡ 0)
    × ((drain_on station (step_on station worked.run 65).run 9).answer ≡ 0)
    × ((drain_on station (step_on station worked.run 65).run 8).answer ≡ 18)
