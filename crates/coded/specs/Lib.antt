-- `RecordCodes` has the codes of a record, `Refusals` 10 to 13, `Making` what is made of a description, and `Getters` what is asked of it.
pub mod RecordCodes
pub mod Refusals
pub mod Making
pub mod Getters
