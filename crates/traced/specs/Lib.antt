-- The lines of tasks, and the rows of `trace`.
pub mod Lines
pub mod Traces
