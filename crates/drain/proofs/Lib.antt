-- The laws of the drain.
--   Draining   the search for the lowest possible step, and one turn of the drain
--   Possible   a step is possible exactly when its parts say so
--   Brings     what a possible step does: where it brings a record, the run after it
--   Full       the tasks noted as having a full output are those that have one
--   Hits       the test of a step by its parts is `possible`
--   Asking     small laws of the test and of what a step leaves behind
--   Steps      the search finds the lowest possible step
--   Onward     one turn of the drain
pub mod Draining
pub mod Possible
pub mod Brings
pub mod Full
pub mod Hits
pub mod Asking
pub mod Steps
pub mod Onward
