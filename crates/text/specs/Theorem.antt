-- What is proved of decimals.
pub mod Digits
pub mod Decimals
