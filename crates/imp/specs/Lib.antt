-- What a routine means, definition by definition in the order in which they are read. The theorems about them stand under `proofs/Theorem`.
pub mod Condition
pub mod Routine
pub mod Configure
pub mod Embed
pub mod Valid
pub mod Numbers
pub mod State
pub mod Plain
pub mod Shared
pub mod Rules
