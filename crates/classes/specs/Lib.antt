-- The class of each refusal, and the letter that a number tells.
pub mod Classes
