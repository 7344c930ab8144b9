-- `RoundTrips` states that values are read back and written back.
pub mod RoundTrips
