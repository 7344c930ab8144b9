-- The answer of a clear.
pub mod Clear
