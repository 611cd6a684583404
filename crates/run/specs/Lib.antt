-- A run: its parts, the fresh one, and the fit.
--   Runs   the fresh run, and a run with one part changed
--   Fit    the fit (answer 16) clause by clause, and the test that the code computes
--   Table  the counts at their edges, computed
pub mod Runs
pub mod Fit
pub mod Table
