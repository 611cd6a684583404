-- 9. THE SINGLE TABLE, computed from the definitions; the two chains of job/specs/Table.antt, whose 4,096 records are in order by a law,
-- are taken from there.
use mathlib.Core.Path.{refl}
use Rattle.kinds.specs.Kinds.{sent_on}
use Rattle.channel.specs.Channels.{with_item, without_head}
use Rattle.job.specs.Tests.{some, every, filled, sweep, sweeps}
use Rattle.job.specs.Columns.{fault1, fault2, fault3, fault4, fault5, fault6, bad_task, off_table, bad_part, bad_record, bad_records}
use Rattle.job.specs.Jobs.{job_of, place_of}
use Rattle.job.specs.Rules.{job_answer, first_fault, has_input, fault7, fault8, fault9}
use Rattle.job.specs.Rules.{strike, struck_tasks, capped, capped_inflow, worst_anew, worst_counts}
use Rattle.job.specs.Graph.{sent_over}
use Rattle.job.specs.Table.{table}
use Rattle.direct.specs.Direct.{read_by, received_by, direct_totals, fault35, totals_of_all, directed_of}
use Rattle.run.specs.Fit.{run_fits, channels_fit, tasks_fit, task_fits, limit_of, totals_fit, place_fits, channel_fits}
use Rattle.outputs.specs.Outputs.{some_full, all_marked, all_stored, each_place, unmarked, sources_wait, put_on, put_all}
use Rattle.step.specs.Algorithm.{turn_of, completed, stored_by, barrier_received, taken_in, record_received}
use Rattle.step.specs.Step.{with_taken, delivered, is_no_source, next_record, source_read, barrier_sent, begun, cut_off, stepped}
use Rattle.lists.specs.Lists.{listed_to}
use Rattle.drain.specs.Drains.{tasks_left, channels_left, some_left, possible, first_from, lowest, drained_of}
use Rattle.station.specs.Entries.{admitted_of, step_on, steps_on, drain_on}
use Rattle.promises.specs.Table.{SingleTable}

-- "Proved together as a single table over the definitions: 0 tasks, 1; 17 tasks, 1; Scale 1 of -5 is -2; .. its snapshot totals."
pub single_table : SingleTable
unfolding sent_on sent_over place_of some every filled sweep sweeps job_of job_answer first_fault capped capped_inflow
    fault1 fault2 fault3 fault4 fault5 fault6 bad_task off_table bad_part bad_record bad_records
    has_input fault7 fault8 fault9 strike struck_tasks worst_anew worst_counts
    read_by received_by direct_totals fault35 totals_of_all directed_of
    run_fits channels_fit tasks_fit task_fits limit_of totals_fit place_fits channel_fits
    with_item without_head some_full all_marked all_stored each_place unmarked sources_wait turn_of put_on put_all
    completed stored_by barrier_received taken_in record_received
    with_taken delivered is_no_source next_record source_read barrier_sent begun cut_off stepped
    listed_to step_on steps_on admitted_of tasks_left channels_left some_left possible first_from lowest drained_of drain_on
single_table =
    (table.0, table.1, refl, refl, refl, refl, refl, table.3, table.4, table.2, refl, refl, (refl, refl), refl, refl, refl, refl)
