-- The part that is handed back.
pub mod Part
