-- What the program `acceptance` lends, compares and answers: no part of the standard.
pub mod Lengths
pub mod Comparing
pub mod Expected
