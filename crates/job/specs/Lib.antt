-- The job: its columns, the rules of answers 1 to 9, and the answer as the first rule that fails.
--   Tests     tests over the numbers below n; lists filled place by place
--   Columns   the seven columns, and lines 1 to 6 of the table
--   Jobs      the job by value
--   Faults    a case for each line, and its number
--   Rules     lines 7 to 9, and the answer
--   Exact     the table as a statement: each number given exactly when its line holds
--   Graph     the job's channels read as a graph, for direct evaluation
--   Fits      what later layers use of an accepted job
--   Table     worked jobs, computed
pub mod Tests
pub mod Columns
pub mod Jobs
pub mod Faults
pub mod Rules
pub mod Exact
pub mod Graph
pub mod Fits
pub mod Table
