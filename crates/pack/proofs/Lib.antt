-- `Packed` says that packed data are bits, and `Sources` that those bits are the source's.
pub mod Packed
pub mod Sources
