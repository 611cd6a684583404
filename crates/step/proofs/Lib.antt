-- The laws of one step.
--   Rooms, Lent      what the fit says of totals, of a lent record
--   Sources          what the tests of the step rules say
--   Fitting, Keeps   every step keeps a fitting run fitting (`stepped_fits`)
--   Refused          a refused step gives the run as it came (`refused_same`)
--   Changes          a step changes only what the table says (`delivered_elsewhere`, `read_elsewhere`, `sent_elsewhere`)
pub mod Rooms
pub mod Sources
pub mod Lent
pub mod Fitting
pub mod Keeps
pub mod Refused
pub mod Changes
