-- What the run of one setting asks for and leaves.
pub mod PlainRun
pub mod Inner
pub mod Theorem
