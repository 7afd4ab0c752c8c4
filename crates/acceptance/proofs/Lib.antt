-- Laws for the proofs of this crate's functions.
pub mod Equal
pub mod Seen
pub mod Theorem
