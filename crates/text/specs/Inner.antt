-- What the functions inside ask of each other: no part of the standard.
pub mod Puts
