-- Which bits of a payload a field owns.
pub mod Ownership
