-- `Found` has what a reading finds and answers, `Unpacked` what is taken from a field's bytes, and `CodeUnpacked` how the code tells that.
pub mod Found
pub mod Unpacked
pub mod CodeUnpacked
