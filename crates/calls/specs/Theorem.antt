-- What is proved of the calls for C.
pub mod Unique
