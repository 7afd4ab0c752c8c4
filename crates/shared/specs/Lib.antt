-- What the run over a set of settings asks for and leaves.
pub mod Lent
pub mod SharedRun
pub mod Inner
