-- The definitions that the contracts of `sets` cite, and what follows of them alone.
pub mod Member
pub mod Digits
pub mod Same
