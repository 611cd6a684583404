-- A theory of barrier snapshots over a graph of tasks, for a run given by functions of the task's or channel's number: what its sentences
-- mean. The base has one snapshot under way and no back channel; request h has four, request k a run begun from totals, request n back
-- channels and records with rounds. What is proved about these definitions stands in proofs/.
--   to be believed
--     Received     a graph, and direct evaluation: the records that each task receives
--   sums and values
--     Below        small things: flags as numbers, tests and tables of the numbers below n
--     Sums         sums in a commutative monoid
--     Totals       count, sum, least and greatest as one such monoid
--     Acyclic      walks, answer 8 computed, ranks, and the measure that no record's travel passes
--     Value        a record's value, and the law of conservation
--   runs and steps
--     Items        what a channel holds: barriers and records
--     Run          a run, a job, and the parts of a step
--     Invariant    the view of each snapshot, the order of barriers, what every grown run has; request h's rule of fit
--     Moves        the whole steps as a relation, what is left to do, chains of steps
--     Step         the step by its number, with refusals; lists of steps
--     StepsLeft    the number of steps left
--     Drain        the drain as a function
--     Onlooker     what an onlooker notes of offsets, and of records sent and taken
--     Accepted     worst counts, and what an accepted job has
--   requests
--     Numbers      request h: numbers on barriers, and the four places for half-taken totals
--     Rounds       request n: records with rounds; direct evaluation and worst count over task and round
--     Restored     request n: what stands in front of a channel after a cut
pub mod Received
pub mod Below
pub mod Sums
pub mod Totals
pub mod Acyclic
pub mod Value
pub mod Items
pub mod Run
pub mod Invariant
pub mod Moves
pub mod Step
pub mod StepsLeft
pub mod Drain
pub mod Onlooker
pub mod Accepted
pub mod Numbers
pub mod Rounds
pub mod Restored
