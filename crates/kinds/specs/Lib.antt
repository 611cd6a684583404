pub mod Kinds
pub mod Table
