-- What C sees of each call.
pub mod Boundary
