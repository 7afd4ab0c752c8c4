-- Texts as bytes: decimals, and what the writing of a text leaves.
pub mod Decimal
pub mod Inner
pub mod Theorem
