-- No second answer fits the contracts of a part and of the part of a refusal.
pub mod OneAnswer
