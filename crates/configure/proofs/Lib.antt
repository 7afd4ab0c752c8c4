-- What the proofs of several functions use.
pub mod Branches
pub mod Nodes
pub mod Written
