-- The whole answer of each call.
pub mod Calls
