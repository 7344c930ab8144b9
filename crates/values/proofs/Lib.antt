-- `Cases` has what a reading stands on: what bits say fits an i64.
pub mod Cases
