-- `Refusing` states demand 1.
pub mod Refusing
