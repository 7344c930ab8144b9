-- What a description is refused for.
pub mod Described
