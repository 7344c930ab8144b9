-- `Meaning` has the laws of what bits say, and `Ranges` those of the ranges and of the bits of a number below zero.
pub mod Meaning
pub mod Ranges
