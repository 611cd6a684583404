-- Laws of the columns.
--   Tables   a list given by its places
--   Rings    what a store does to what the columns read as: take, put, count
--   Flats    what the columns say of the run that they stand for
--   LaidOut  a run laid out and read back
pub mod Tables
pub mod Rings
pub mod Flats
pub mod LaidOut
