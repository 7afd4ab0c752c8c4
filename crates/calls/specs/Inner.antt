-- What inner functions ask of each other; no promise rests on reading it.
pub mod Asked
