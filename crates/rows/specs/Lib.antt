-- What is written: numbers, rows, and a text in a lent buffer.
pub mod Decimals
pub mod Rows
pub mod Buffers
