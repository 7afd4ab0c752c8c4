-- The laws that the proofs of the run of one setting share.
pub mod Good
pub mod Evaluation
pub mod Beginning
pub mod Statements
pub mod Loops
pub mod Plainly
