-- `Effects` has what a write and a clear make of each bit, of which the laws speak. `Ordering` has which bit of a run stands where
-- in its ordered form, `Places` that what is done bit by bit in a cut-out is done bit by bit in the payload, and `Laid` where bits
-- stand that go through a cut-out. `Clears` has the clear law and `Writes` the write law, `Sources` that what Standard fields
-- write leaves alone what they do not own, `Commuting` that writes which own nothing in common go in either order, and `Rewritten`
-- what stands in a cut-out after a clear and a write. `Permutations` has sums over lists, and `Edges` the laws at the edges of
-- their premises.
pub mod Effects
pub mod Ordering
pub mod Places
pub mod Laid
pub mod Clears
pub mod Writes
pub mod Sources
pub mod Commuting
pub mod Rewritten
pub mod Permutations
pub mod Edges
