-- What configuring an image for a setting writes.
pub mod Configured
pub mod Inner
pub mod Theorem
