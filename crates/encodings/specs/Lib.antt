-- `Widths` has the codes of the encodings and the widths that each allows, `Meaning` what bits say, `Writing` the range and the bits that a
-- number is written as, and `Refusals` 59 and 60; and `CodeSaid` how the code tells what bits say.
pub mod Widths
pub mod Meaning
pub mod Writing
pub mod Refusals
pub mod CodeSaid
