-- `MinMax` has where data bytes between limits end and what is refused of that, and `CodePlace` how the code tells their place.
pub mod MinMax
pub mod CodePlace
