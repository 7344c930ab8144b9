-- `Bench` has the bench cases that are proved, `Readings` and `Writes` the other cases and corners beside them, by `Descriptions` of coded
-- types, `Stored` examples of records and tables, and `Values` numbers that are read and written.
pub mod Descriptions
pub mod Bench
pub mod Stored
pub mod Readings
pub mod Writes
pub mod Values
