-- The entry points: any columns, any run, any numbers.
pub mod Refusals
pub mod Entries
