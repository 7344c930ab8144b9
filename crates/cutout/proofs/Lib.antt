-- `Cleared` has what a clear without a mask takes away.
pub mod Cleared
