-- `Letters` has the laws of the column of classes.
pub mod Letters
