-- `Bits` has the bits of bytes, `Moves` what is taken out of them and put into them, and `CodeRuns` a run of them as the code has it.
pub mod Bits
pub mod Moves
pub mod CodeRuns
