-- What the proofs of several functions use.
pub mod Numbers
pub mod Counting
pub mod Judged
pub mod Searches
pub mod Stores
pub mod Theorem
