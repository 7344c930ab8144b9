-- `Splices` has the laws of a part that is changed, `Written` those of a write that is not refused, and `Likeness` that sources with the
-- same bits are written alike.
pub mod Splices
pub mod Written
pub mod Likeness
