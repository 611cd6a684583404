-- "A list of steps is done in order."
pub mod Lists
