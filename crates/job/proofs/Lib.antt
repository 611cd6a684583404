-- The laws behind the check of a job.
--   Bools, Ints, Tests, First   tests and numbers; loops over them; the first line that holds
--   Ranges                      what `any` and `all` over the numbers below n answer
--   Fine, Checks                what lines 1 to 6 give; what the check hands on
--   Inputs, Sweeps              line 7; sweeps over a list, and what they settle at
--   Walks                       line 8: unstruck tasks and returning walks are the same
--   Worst                       line 9: the code's capped counts and the document's recursion are the same
--   Exact                       THE TABLE: each number given exactly when its line holds
--   Fits                        an accepted job has all that later layers use
pub mod Bools
pub mod Ints
pub mod Tests
pub mod Ranges
pub mod First
pub mod Fine
pub mod Checks
pub mod Inputs
pub mod Sweeps
pub mod Walks
pub mod Worst
pub mod Exact
pub mod Fits
