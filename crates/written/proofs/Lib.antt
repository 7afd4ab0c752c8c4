-- The theorems about the definitions of `specs/`.
pub mod Theorem
