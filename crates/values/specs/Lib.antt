-- `Values` has the two calls.
pub mod Values
