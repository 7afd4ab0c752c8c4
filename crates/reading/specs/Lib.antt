-- What reading promises, and what its inner functions ask of each other.
pub mod Reads
pub mod Inner
