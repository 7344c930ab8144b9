-- What becomes of an ordered cut-out when a source is put into it or a field's bits are cleared.
pub mod CutOut
