-- `Shown` has what a variant's packed source shows.
pub mod Shown
