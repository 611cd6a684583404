-- Direct evaluation.
--   Direct    what each task receives, its totals, the counts that are refused, and the law of what a task receives
--   Walked    the order in which the code counts
--   Table     the worked station, computed
pub mod Direct
pub mod Walked
pub mod Table
