-- What the functions inside ask of each other: no part of the standard.
pub mod Progress
pub mod Evaluating
pub mod Running
