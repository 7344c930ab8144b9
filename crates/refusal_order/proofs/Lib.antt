-- `Numbers` has the number that an outcome ends in, step by step; `Prefix` what every call refuses first, `Own` what each call and
-- variant refuses then, `Ordered` the theorem,
-- and `Broken` inputs that break several rules, computed.
pub mod Numbers
pub mod Prefix
pub mod Own
pub mod Ordered
pub mod Broken
