-- `Condensed` has a condensed mask, read from its front and written from its end, and `Gathered` how many bits it gathers.
pub mod Condensed
pub mod Gathered
