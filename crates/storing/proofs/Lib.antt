-- `InBytes` has the numbers of a record in its bytes and back, `InNumbers` a coded type in its numbers and back, `OneToOne` both ways
-- joined, and `Edges` the theorems at the edges of their premises.
pub mod InBytes
pub mod InNumbers
pub mod OneToOne
pub mod Edges
