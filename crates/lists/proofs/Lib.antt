-- The laws of lists: a list of steps keeps a run fitting, and counts at most its steps.
pub mod Listing
