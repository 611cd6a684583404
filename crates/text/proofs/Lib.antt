-- What the proofs cite, from one number read to the whole text. The theorems are in Unique and Exact.
pub mod Reading
pub mod OneLine
pub mod Unique
pub mod Forms
pub mod Columns
pub mod Exact
pub mod Parts
pub mod Whole
