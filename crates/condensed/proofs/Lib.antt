-- `Ones` has the ones of a mask, `Gather` the bits gathered through it, `Size` how much a reading gives, `OnesMet` how many bits it gathers,
-- and `Replaced` the source of a write. `Worked` computes examples.
pub mod Gather
pub mod OnesMet
pub mod Ones
pub mod Replaced
pub mod Size
pub mod Worked
