-- What the proofs cite, from digits to a row. The theorem is in Fields: how long a row can be.
pub mod Digits
pub mod Putting
pub mod Printed
pub mod Fields
pub mod Table
