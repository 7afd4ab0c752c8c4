-- The written form of a routine, definition by definition in the order in which they are read. The theorems about them stand under `proofs/Theorem`.
pub mod Byte
pub mod Token
pub mod Word
pub mod Grammar
pub mod Under
pub mod Machine
pub mod Count
pub mod Limits
pub mod Answer
pub mod Lister
pub mod Image
pub mod Told
