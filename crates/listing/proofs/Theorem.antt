-- What is proved of the listing.
pub mod Spelled
pub mod Signs
pub mod Short
pub mod Image
pub mod Counted
pub mod Root
pub mod ReadBack
pub mod Vectors
