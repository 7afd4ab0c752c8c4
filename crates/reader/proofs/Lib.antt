-- What the proofs use.
pub mod Telling
