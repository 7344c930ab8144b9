-- `Field` has what matters of a coded type and its store, and `Refusals` what is refused before a call's own rules.
pub mod Field
pub mod Refusals
