-- What the programs `totals` and `trace` print: the table, and the whole output for a text.
pub mod Tables
pub mod Outputs
