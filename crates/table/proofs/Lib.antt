-- `Headers` has what a valid header says of its table, `Alone` that a fetch looks at the header and one record, and `Edges` that theorem at
-- tables that agree in no more.
pub mod Headers
pub mod Alone
pub mod Edges
