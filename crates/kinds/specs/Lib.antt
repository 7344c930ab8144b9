-- The types and their codes, positions in a slice, the table of refusals, the words for outcomes and answers, and the checks 20 to 25, in
-- the words of RULES; and in `CodePlaces` and `CodeUnknown` how the code tells a place, and a code that says nothing.
pub mod Types
pub mod CodeUnknown
pub mod Slices
pub mod Answers
pub mod Outcomes
pub mod Refusals
pub mod CodePlaces
