-- `Numbers` has the bits of a number, `Bytes` those of bytes, `Runs` bytes that are joined, cut or turned, `Stores` a store of a byte as a
-- change of one bit, `Moves` the combinators of bits place by place, `Steps` the loops that write one bit after the other, and `Written` one that
-- writes byte after byte.
pub mod Bytes
pub mod Moves
pub mod Numbers
pub mod Runs
pub mod Steps
pub mod Stores
pub mod Windows
pub mod Written
