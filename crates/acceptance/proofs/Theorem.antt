-- Promises of specs/ that rest on what a must-fail edit makes false: each is proved here, and the file of that name there states it.
pub mod OneHall
pub mod Condition2
