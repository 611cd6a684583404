-- Laws of what is written, and of one step more.
pub mod Writing
pub mod Stepping
