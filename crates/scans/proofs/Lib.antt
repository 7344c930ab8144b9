-- `Scans` has the steps of a scan, and how far it goes.
pub mod Scans
