-- What the proofs of several functions use.
pub mod Signs
pub mod Conditions
pub mod Nodes
pub mod Counts
pub mod Whole
pub mod Theorem
