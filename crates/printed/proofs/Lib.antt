-- The proofs of specs/Printed.antt.
pub mod Printed
