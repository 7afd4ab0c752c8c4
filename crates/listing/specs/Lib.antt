-- What the lister answers and writes.
pub mod Lists
pub mod Inner
