-- A task's outputs and inputs.
--   Outputs     full, marked, and what is put on every output
--   Parts       the same by numbers, columns and one channel, for the loops of the code
pub mod Outputs
pub mod Parts
