-- The laws of the theory, each file from those above it.
--   sums and values
--     Below        laws of the small things
--     Sums         laws of sums in a commutative monoid, and of maps between monoids
--     Each         a property of every element of a list
--     Value        a record's value: linearity (`sum_received`), the push equation (`push_all`)
--     Flow         the values of the records in channels and at tasks, for any values with the push equation
--     Balance      the law of conservation, and what keeps it
--     Acyclic      no returning walk, and a rank, are the same; which holds is computed
--   runs and steps
--     Items, Parts laws of a channel's items, and of reading on in a source's part
--     Order        each part of a step keeps the order of barriers
--     Seen, Views, Deliver   each part of a step keeps the law of conservation in every snapshot's view
--     Moves        every step keeps request h's rule of fit (`step_fits`) and what a grown run has (`step_good`)
--     Search, Progress       no deadlock without back channels (`progress`)
--     StepsLeft    every step takes one from the steps left (`step_left`)
--     Did          the one walk through the step by its number (`did`)
--     Step         the step by its number is the relation (`step_ok`, `step_possible`); 17 only at the bound (`never_17`)
--   promises
--     Grown        grown runs are good; their last snapshot is direct evaluation's (`snapshot_direct`)
--     Drain        what a drain leaves (`drain_all`, `drained_direct`, `zero_direct`), and that 19 is silent (`never_19`)
--     Account      the account of steps (`account`, `drain_account`)
--     Bound        worst counts bound direct evaluation; the limit is enough (`limit_enough`)
--     Offsets      the offsets are those noted by the onlooker (`offsets_noted`)
--     History      records sent are records taken and held (`sent_taken`)
--     Promise      THE PROMISES for an accepted job, in one place
--   requests
--     Numbers      request h: numbers and places go through each part of a step
--     Rounds, RoundSums      request n: the measure of round and rank; task and round, summed (`summed`, `worst_summed`)
--     Logs, Restored         request n: totals with logs (`last_logged`, `restored_direct`); what is restored (`any_restored`)
--   examples
--     Station      the worked station with one and with four snapshots under way, computed
--     Loop         feedback, computed: a snapshot with a log, and two jobs that stick
pub mod Below
pub mod Sums
pub mod Each
pub mod Value
pub mod Flow
pub mod Balance
pub mod Acyclic
pub mod Items
pub mod Parts
pub mod Order
pub mod Seen
pub mod Views
pub mod Deliver
pub mod Moves
pub mod Search
pub mod Progress
pub mod StepsLeft
pub mod Did
pub mod Step
pub mod Grown
pub mod Drain
pub mod Account
pub mod Bound
pub mod Offsets
pub mod History
pub mod Promise
pub mod Numbers
pub mod Rounds
pub mod RoundSums
pub mod Logs
pub mod Restored
pub mod Station
pub mod Loop
