-- What is proved of configuring.
pub mod Terms
pub mod Linked
pub mod Small
pub mod Result
pub mod Vectors
