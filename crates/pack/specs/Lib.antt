-- `Source` has what becomes of the input, and `CodePacking` how the code describes it.
pub mod Source
pub mod CodePacking
