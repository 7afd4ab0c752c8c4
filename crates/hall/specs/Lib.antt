-- The text of one hall, and what the program's functions promise.
pub mod Text
pub mod Stream
pub mod Theorem
