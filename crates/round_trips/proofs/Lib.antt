-- `Patterns` has the laws of bits and numbers, `Calls` what the two calls give where nothing is refused, and `Proved` the theorem.
pub mod Patterns
pub mod Calls
pub mod Proved
