-- The laws of a task's outputs and inputs.
--   Places    loops that make each place of a list anew
--   Sending   parts of a step told by numbers, and one output after the other
--   Cargos    what the fit says of an item
pub mod Places
pub mod Sending
pub mod Cargos
