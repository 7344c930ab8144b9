-- `Refused` has demand 1. Below it `Ending` has how a call ends, `Sizes` that writes keep a payload's size, `Made` the calls that are lent
-- nothing to change, and `Values` the readings and writings of values.
pub mod Ending
pub mod Sizes
pub mod Made
pub mod Values
pub mod Refused
