-- What the proofs of several functions use.
pub mod Tallies
pub mod Telling
pub mod Room
