-- What is proved of the text.
pub mod Fits
pub mod Cut
pub mod Vectors
