pub mod Lists
pub mod Queues
