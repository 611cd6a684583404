pub mod Ints
pub mod Order
pub mod Laws
pub mod Fold
