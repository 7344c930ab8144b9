-- What each variant answers.
pub mod Shapes
