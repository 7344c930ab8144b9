-- `Slices` has what is known of the slices of a call, and `Outside` of a part of a store: whether it ends past the store, and how long it is.
pub mod Outside
pub mod Slices
