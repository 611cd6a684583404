-- One step by its number.
--   Algorithm   Algorithm 1 of source document 001: a barrier received, a record received, with the listing's line numbers
--   Step        document 01's step rules, by the step's number
--   Handlers    the refusals and Algorithm 1's handlers as relations, for the promises
pub mod Algorithm
pub mod Step
pub mod Handlers
