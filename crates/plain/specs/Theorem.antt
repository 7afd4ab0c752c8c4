-- What is proved of images that hold no choice.
pub mod NoChoice
