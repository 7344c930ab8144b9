-- `Rebased` has the laws of digits taken from one base to another, `Decimal` digits each at its place, `Halves` what the highest bit counts,
-- and `Bytes` bytes as one number.
pub mod Rebased
pub mod Decimal
pub mod Halves
pub mod Bytes
