-- What is promised.
--   Grown      grown runs, and what an onlooker notes and counts of them
--   Promises   1 to 6: what is promised of grown runs
--   Demands    7 and 8: demands 2 and 1, every call's answers, and what a step does
--   Table      9: document 01's single table
pub mod Grown
pub mod Promises
pub mod Demands
pub mod Table
