-- The worked station of document 01 as the onlooker sees it, computed from the definitions: 23 steps are done and one snapshot is begun;
-- when it is complete he has noted 1 and 2 records read, and so it says; the formula's numbers are 23 + 7 and 5 + 17 + 1 x (1 + 2 + 5);
-- and before the drain channel 0 has had two of its three records, has delivered both, and holds none. After it a second snapshot, and one
-- after a cut, which the barrier of one that was given up comes before (`watched_on`).
use mathlib.Core.Path.{◌≡◌, refl}
use mathlib.Core.Bool.{true}
use mathlib.Core.List.{List, [], ◌∷◌, ◌++◌}
use Prim.Native.Nat.{ℕ}
use Rattle.kinds.specs.Kinds.{sent_on}
use Rattle.channel.specs.Channels.{with_item, without_head}
use Rattle.job.specs.Tests.{some, every, filled, sweep, sweeps}
use Rattle.job.specs.Columns.{fault1, fault2, fault3, fault4, fault5, fault6, bad_task, off_table, bad_part, bad_record, bad_records}
use Rattle.job.specs.Jobs.{job_of, place_of}
use Rattle.job.specs.Rules.{job_answer, first_fault, has_input, fault7, fault8, fault9}
use Rattle.job.specs.Rules.{strike, struck_tasks, capped, capped_inflow, worst_anew, worst_counts}
use Rattle.job.specs.Graph.{sent_over}
use Rattle.job.specs.Table.{station}
use Rattle.direct.specs.Direct.{read_by, received_by}
use Rattle.run.specs.Fit.{totals_at, run_fits, channels_fit, tasks_fit, task_fits, limit_of, totals_fit, place_fits, channel_fits}
use Rattle.outputs.specs.Outputs.{some_full, all_marked, all_stored, each_place, unmarked, sources_wait, put_on, put_all}
use Rattle.step.specs.Algorithm.{turn_of, completed, stored_by, barrier_received, taken_in, record_received}
use Rattle.step.specs.Step.{last_or_none, with_taken, delivered, is_no_source, next_record, source_read, barrier_sent, begun, cut_off, stepped}
use Rattle.station.specs.Entries.{admitted_of, step_on}
use Rattle.promises.specs.Grown.{after_steps, grown, notes_of, notes_at, over_steps, steps_done, snapshots_begun, records_read, records_sent}
use Rattle.promises.specs.Grown.{sources_of, delivered_from, records_in}
use Rattle.promises.specs.Grown.{sent_on as sent_on_channel}

-- "Steps: 32 64 48 .."
abbrev worked : List ℕ
worked = 32 ∷ 64 ∷ 48 ∷ 32 ∷ 0 ∷ 0 ∷ 0 ∷ 33 ∷ 33 ∷ 49 ∷ 1 ∷ 1 ∷ 1 ∷ 0 ∷ 3 ∷ 3 ∷ 2 ∷ 2 ∷ 2 ∷ 2 ∷ 4 ∷ 4 ∷ 4 ∷ 4 ∷ []

pub watched :
    (steps_done station worked ≡ 23)
    × (snapshots_begun station worked ≡ 1)
    × ((notes_at station worked).any ≡ true)
    × ((notes_at station worked).complete 0 ≡ 1)
    × ((notes_at station worked).complete 1 ≡ 2)
    × ((totals_at (last_or_none (grown station worked)) 0).count ≡ 1)
    × ((totals_at (last_or_none (grown station worked)) 1).count ≡ 2)
    × (records_read station ≡ 5)
    × (records_sent station ≡ 17)
    × (sources_of station ≡ 2)
    × (sent_on_channel station worked 0 ≡ 2)
    × (delivered_from station worked 0 ≡ 2)
    × (records_in (grown station worked) 0 ≡ 0)
unfolding sent_on sent_over place_of some every filled sweep sweeps job_of job_answer first_fault capped capped_inflow
    fault1 fault2 fault3 fault4 fault5 fault6 bad_task off_table bad_part bad_record bad_records
    has_input fault7 fault8 fault9 strike struck_tasks worst_anew worst_counts read_by received_by
    run_fits channels_fit tasks_fit task_fits limit_of totals_fit place_fits channel_fits
    with_item without_head some_full all_marked all_stored each_place unmarked sources_wait turn_of put_on put_all
    completed stored_by barrier_received taken_in record_received
    with_taken delivered is_no_source next_record source_read barrier_sent begun cut_off stepped
    step_on admitted_of after_steps notes_of over_steps
watched = (refl, refl, refl, refl, refl, refl, refl, refl, refl, refl, refl, refl, refl)

-- A send that is refused is not noted. The second snapshot's notes are its own, 3 and 2: those of the first were taken with its 20
abbrev twice : List ℕ
twice = 48 ∷ worked ++ (64 ∷ 32 ∷ 48 ∷ 49 ∷ 0 ∷ 0 ∷ 1 ∷ 3 ∷ 3 ∷ 3 ∷ 2 ∷ 2 ∷ 2 ∷ 4 ∷ 4 ∷ [])

-- The barrier that source 0 sent at 2 is forgotten with the cut; the snapshot begun after it has 3 and 2
abbrev cut_once : List ℕ
cut_once = worked ++ (64 ∷ 48 ∷ 65 ∷ 32 ∷ 64 ∷ 32 ∷ 48 ∷ 49 ∷ 0 ∷ 0 ∷ 0 ∷ 1 ∷ 3 ∷ 3 ∷ 3 ∷ 2 ∷ 2 ∷ 2 ∷ 4 ∷ 4 ∷ [])

pub watched_on :
    ((steps_done station twice ≡ 38) × (snapshots_begun station twice ≡ 2))
    × (((notes_at station twice).complete 0 ≡ 3) × ((notes_at station twice).complete 1 ≡ 2))
    × ((steps_done station cut_once ≡ 43) × (snapshots_begun station cut_once ≡ 3))
    × (((notes_at station cut_once).complete 0 ≡ 3) × ((notes_at station cut_once).complete 1 ≡ 2))
unfolding sent_on sent_over place_of some every filled sweep sweeps job_of job_answer first_fault capped capped_inflow
    fault1 fault2 fault3 fault4 fault5 fault6 bad_task off_table bad_part bad_record bad_records
    has_input fault7 fault8 fault9 strike struck_tasks worst_anew worst_counts read_by received_by
    run_fits channels_fit tasks_fit task_fits limit_of totals_fit place_fits channel_fits
    with_item without_head some_full all_marked all_stored each_place unmarked sources_wait turn_of put_on put_all
    completed stored_by barrier_received taken_in record_received
    with_taken delivered is_no_source next_record source_read barrier_sent begun cut_off stepped
    step_on admitted_of after_steps notes_of over_steps
watched_on = ((refl, refl), (refl, refl), (refl, refl), (refl, refl))
