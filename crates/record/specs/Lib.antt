-- `Numbers` has the numbers of a record, `Parsing` the coded type that they say, and `Recorded` what a call that takes a record refuses
-- first.
pub mod Numbers
pub mod Parsing
pub mod Recorded
