-- What is proved of the report's text.
pub mod Measure
pub mod Lengths
pub mod Fits
pub mod Cut
pub mod Least
pub mod Vectors
