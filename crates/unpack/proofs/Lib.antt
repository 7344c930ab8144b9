-- `Rooms` has the answer with room and without, and `Sizes` how many bytes are taken.
pub mod Rooms
pub mod Sizes
