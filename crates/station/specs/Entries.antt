-- The entry points of document 01 over any columns, run and numbers: "Every other call on a run checks 1 to 9 first, then: 16"; then the call's
-- own answers. "Each refusal returns its number and the run as it came"; "a list of steps or a drain that meets 1 to 9 or 16 does no step
-- and reports zero counts."
use Rattle.std.specs.Prelude.{cond, List, ℕ, eqb, length, Result, Ok, Err}
use Rattle.job.specs.declared.Job.{Job}
use Rattle.job.specs.Columns.{Columns}
use Rattle.job.specs.Jobs.{job_of}
use Rattle.job.specs.Rules.{job_answer}
use Rattle.run.specs.declared.Run.{Run}
use Rattle.run.specs.Fit.{run_fits}
use Rattle.step.specs.declared.Stepped.{Stepped}
use Rattle.step.specs.Algorithm.{answered}
use Rattle.step.specs.Step.{stepped}
use Rattle.lists.specs.declared.Listed.{Listed}
use Rattle.drain.specs.declared.Drained.{Drained}
use Rattle.lists.specs.Lists.{listed_to}
use Rattle.drain.specs.Drains.{ended, drained_of}
use Rattle.station.specs.declared.refusal.Refusal.{Refusal}
use Rattle.station.specs.Refusals.{refusal_of}

-- 1 to 9, then 16, then 0
abbrev pub entry : Columns → Run → ℕ
entry J run = cond (eqb (job_answer J) 0) (cond (run_fits (job_of J) run) 0 16) (job_answer J)

-- the job by value where that is 0, else the refusal of that number
unfoldable pub admitted_of : Columns → Run → Result Job Refusal
admitted_of J run = cond (eqb (entry J run) 0) (Ok (job_of J)) (Err (refusal_of (entry J run)))

-- a step
unfoldable pub step_on : Columns → Run → ℕ → Stepped
step_on J run n = cond (eqb (entry J run) 0) (stepped (job_of J) J.cylinders J.values run n) (answered (entry J run) run)

-- a list of steps
unfoldable pub steps_on : Columns → Run → List ℕ → Listed
steps_on J run numbers =
    cond (eqb (entry J run) 0) (listed_to (job_of J) J.cylinders J.values run numbers (length numbers))
    (record { run = run; answer = entry J run; done = 0; refused = 0 })

-- a drain
unfoldable pub drain_on : Columns → Run → ℕ → Drained
drain_on J run limit = cond (eqb (entry J run) 0) (drained_of (job_of J) J.cylinders J.values limit 0 run) (ended (entry J run) run 0)
