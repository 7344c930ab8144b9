-- `Payload` has a slice with a used length, `CodeHeld` that of the code, and `Writing` what becomes of it when a source is written or a
-- field's bits are cleared.
pub mod Payload
pub mod CodeHeld
pub mod Writing
