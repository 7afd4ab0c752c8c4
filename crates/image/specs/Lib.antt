-- What the bytes of an image mean. Definitions first, in the order in which they are read; the theorems about them stand under `Theorem`.
pub mod Bytes
pub mod Records
pub mod Layout
pub mod Kinds
pub mod Refusals
pub mod Rows
pub mod Check
pub mod Accepted
pub mod Tree
pub mod Listing
pub mod Sets
pub mod Term
pub mod Encode
pub mod Inner
