-- A run's channels as columns of numbers, and how many records its tasks have received.
--   Columns   what the columns read as; a host that lends them needs this file alone
--   Table     the same, computed at the edges
--   Lays      the words of the code that lays a run out
pub mod Columns
pub mod Table
pub mod Lays
