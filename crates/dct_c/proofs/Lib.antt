-- `OneAnswer` has that no second answer fits what C calls.
pub mod OneAnswer
