-- The record of a coded type.
pub mod Storing
