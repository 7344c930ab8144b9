-- `LengthField` has a length field as a number, and how many data bytes it says.
pub mod LengthField
