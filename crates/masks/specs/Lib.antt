-- `Mask` has what a mask may be, and `Plain` masks in plain use.
pub mod Mask
pub mod Plain
