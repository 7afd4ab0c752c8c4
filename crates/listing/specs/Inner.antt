-- What the functions inside ask of each other: no part of the standard.
pub mod Spelling
pub mod Texts
pub mod Listing
pub mod Counting
pub mod Shaped
