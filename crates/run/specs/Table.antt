-- Answer 16 at the edges of the counts, computed from the definition: the worked station's job, and a fresh run with one count changed. One
-- snapshot may be under way, one barrier wait at a source, one be stored by a task; two may not, nor one where the job has no such place.
use Rattle.std.specs.Prelude.{◌≡◌, refl, Bool, true, false, List, ℕ, set, replicate}
use Rattle.tally.specs.Totals.{no_totals}
use Rattle.job.specs.Tests.{every, filled}
use Rattle.job.specs.Jobs.{job_of}
use Rattle.job.specs.Table.{station}
use Rattle.run.specs.declared.Run.{Run}
use Rattle.run.specs.Runs.{fresh_run, with_waiting, with_half, with_under_way}
use Rattle.run.specs.Fit.{channel_fits, place_fits, channels_fit, totals_fit, limit_of, task_fits, tasks_fit, run_fits}

-- no count but n at task t
abbrev only : ℕ → ℕ → List ℕ
only t n = set (replicate 16 0) t n

abbrev fits : Run → Bool
fits run = run_fits (job_of station) run

-- n are under way; n barriers wait at task t; task t has stored n
abbrev under_way : ℕ → Bool
under_way n = fits (with_under_way n fresh_run)

abbrev wait_at : ℕ → ℕ → Bool
wait_at t n = fits (with_waiting (only t n) fresh_run)

abbrev stored_at : ℕ → ℕ → Bool
stored_at t n = fits (with_half (replicate 16 no_totals) (only t n) fresh_run)

pub table :
    (fits fresh_run ≡ true)
    × ((under_way 1 ≡ true) × (under_way 2 ≡ false))
    -- tasks 0 and 1 are sources, 2 to 4 are not, 5 is none of the job's
    × ((wait_at 1 1 ≡ true) × (wait_at 1 2 ≡ false) × (wait_at 2 1 ≡ false) × (wait_at 5 1 ≡ false))
    × ((stored_at 4 1 ≡ true) × (stored_at 4 2 ≡ false) × (stored_at 5 1 ≡ false))
unfolding job_of filled every channel_fits place_fits channels_fit totals_fit limit_of task_fits tasks_fit run_fits
table = (refl, (refl, refl), (refl, refl, refl, refl), (refl, refl, refl))
