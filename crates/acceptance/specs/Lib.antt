-- What holds between the calls, a file a condition; one hall's call and the two that it joins; that no promise leaves two results; and the cases that were checked by hand.
pub mod ByRules
pub mod WrittenForm
pub mod InTurn
pub mod OneHall
pub mod Condition1
pub mod Condition2
pub mod Condition3
pub mod Unique
pub mod Table
pub mod Inner
pub mod Theorem
