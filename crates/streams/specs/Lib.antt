-- What the functions promise.
pub mod Streams
pub mod Theorem
