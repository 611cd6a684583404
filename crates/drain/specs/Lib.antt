-- The drain.
--   Drains    the drain as document 01 has it
-- The words of the code that drains in columns; a reader does not need them to know what a drain gives:
--   Ready     whether a step is possible
--   Sending   what a step brings, leaves behind and sends
--   Turns     where a drain stands after some turns in columns
pub mod Drains
pub mod Ready
pub mod Sending
pub mod Turns
