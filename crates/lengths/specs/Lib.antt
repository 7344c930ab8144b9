-- What encode and clear refuse for a variant's sake.
pub mod Refusals
