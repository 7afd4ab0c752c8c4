-- What inner functions ask of each other.
pub mod Way
pub mod Between
pub mod Spelling
pub mod Token
pub mod Number
pub mod Parts
pub mod Lead
pub mod Marks
pub mod Conditions
pub mod Node
pub mod ConditionLead
pub mod Storing
pub mod Writing
pub mod Whole
