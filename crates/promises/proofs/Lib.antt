-- The proofs of the promises.
--   the product's run read as a run of `laws`
--     Reading     the product's job and run, read as a job and a run of `laws`
--     Held, Sizes, Asked, Moved   the parts of a step, read
--     Bridge      the product's step, read, is the step of `laws` (`step_read`)
--     Along       so a run goes the way of the run that it is read as (`goes`), from a fresh one on
--     Grows       calls on grown runs are admitted, and what is counted is counted in `laws` (`counts_at`)
--     Evaluated   direct evaluation is that of `laws` (`direct_is`), and an accepted job is one of `laws` (`accepted`)
--     Counted     the call `direct` at given counts (`directed_is`)
--     Emptied     the drain's definition by itself (`by_turns`)
--     Twins       the drain is the drain of `laws` (`twins`)
--   the statements
--     Flags, Snapped   2: what a 20 says; snapshots, by the onlooker's notes
--     Finished    3: a drain ends
--     Formula     4: the step formula
--     Sent        5: conservation
--     Silenced    1 and 6: grown runs fit; 16, 17 and 19 are silent
--     Promised    THE PROMISES of grown runs, in one place
--     Onlooker    the worked station as the onlooker sees it, computed, with a second snapshot and with a cut
--     Queued      the run's channels: a head taken, what is put on the outputs
--     Conditions  the conditions of demands 1 and 2, the tests of the step rules, and when a call is admitted
--     InOrder     a list of steps is its steps, one call after another
--     Algorithm1  7: Algorithm 1's handlers (`demand_2`)
--     AllCalls    8: every call's answers (`demand_1`)
--     Computed    9: the single table (`single_table`)
pub mod Reading
pub mod Held
pub mod Sizes
pub mod Asked
pub mod Moved
pub mod Bridge
pub mod Along
pub mod Grows
pub mod Evaluated
pub mod Counted
pub mod Emptied
pub mod Twins
pub mod Flags
pub mod Snapped
pub mod Finished
pub mod Formula
pub mod Sent
pub mod Silenced
pub mod Promised
pub mod Onlooker
pub mod Queued
pub mod Conditions
pub mod InOrder
pub mod Algorithm1
pub mod AllCalls
pub mod Computed
