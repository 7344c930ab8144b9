-- `Finding` has what each variant finds, and `CodeReading` how the code gets there.
pub mod Finding
pub mod CodeReading
