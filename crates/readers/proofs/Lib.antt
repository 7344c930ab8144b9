-- `Places` has the laws of a reading at a place, `Data` those of data bytes, `Findings` what each variant finds, and `Edges` the same
-- where a premise is only just met.
pub mod Places
pub mod Data
pub mod Findings
pub mod Edges
