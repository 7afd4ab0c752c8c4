-- What the calls from C reply.
pub mod Reply
pub mod Calls
pub mod Space
pub mod Shared
pub mod Read
pub mod Inner
pub mod Theorem
