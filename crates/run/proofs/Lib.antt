-- The laws of a run's fit.
--   Ints       "any signed 32-bit number", as a test and as the type's fact
--   Clauses    the test that the code computes is the clauses of `Fits` (`fits_exact`)
pub mod Ints
pub mod Clauses
