-- The stored table: its header, and the record with a number.
pub mod Table
