-- What the functions inside ask of each other: no part of the standard.
pub mod Whole
pub mod Headed
pub mod Lower
pub mod SetsOf
pub mod Ready
pub mod Words
