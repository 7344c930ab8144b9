-- `Ways` has demand 3, and `Changed` the same of any way to call that follows the field layer, which is said in `Following`; below it, `Calls`
-- has what the field layer's calls leave, `Owners` lists of fields counted, `Building` what is built of them, and `ReadBack` what is read
-- back. `Lists` has lists of fields that the checker computes, and `Edges` the theorem where its premises are only just met.
pub mod Calls
pub mod Following
pub mod Owners
pub mod Building
pub mod ReadBack
pub mod Changed
pub mod Ways
pub mod Lists
pub mod Edges
