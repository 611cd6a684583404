-- What `totals` prints for an accepted job, and that `trace` shows one run.
pub mod Printed
