-- `Leading` has the number in a length field and what is refused of it, and `CodePlace` how the code tells where the data bytes are.
pub mod Leading
pub mod CodePlace
