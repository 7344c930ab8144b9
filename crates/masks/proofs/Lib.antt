-- `Masked` has the bits under a mask, and `Worked` computes examples.
pub mod Masked
pub mod Worked
