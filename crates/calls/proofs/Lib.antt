-- What the calls hand down.
pub mod Ways
