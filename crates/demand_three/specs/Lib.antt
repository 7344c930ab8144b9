-- `Changing` states demand 3.
pub mod Changing
