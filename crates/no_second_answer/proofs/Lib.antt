-- `Unique` has that no second answer fits a contract.
pub mod Unique
