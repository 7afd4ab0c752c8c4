-- The report's text, and what the writing of it asks for and leaves.
pub mod Words
pub mod Text
pub mod Limits
pub mod Report
pub mod Inner
pub mod Theorem
