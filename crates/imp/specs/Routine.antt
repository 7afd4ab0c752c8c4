-- The trees of routines: Figure 4.1 of the thesis with the pick, and Figure 5.1's choices over conditions of a type `C`.
-- Over `Condition` they are Figure 5.1; over the empty type `⊥` they can hold no choice, and are Figure 4.1.
use Rattle.std.specs.Prelude.{ℕ, ℤ}

mutual
  -- kinds 0 to 4
  pub data Arithmetic (C : Type 0) : Type 0 where
    number : ℤ → Arithmetic C
    variable : ℕ → Arithmetic C
    sum : Arithmetic C → Arithmetic C → Arithmetic C
    pick : Boolean C → Arithmetic C → Arithmetic C → Arithmetic C
    choiceᵃ : C → Arithmetic C → Arithmetic C → Arithmetic C

  -- kinds 8 to 13
  pub data Boolean (C : Type 0) : Type 0 where
    falseᵇ trueᵇ : Boolean C
    notᵇ : Boolean C → Boolean C
    andᵇ : Boolean C → Boolean C → Boolean C
    less : Arithmetic C → Arithmetic C → Boolean C
    choiceᵇ : C → Boolean C → Boolean C → Boolean C

-- kinds 16 to 23
pub data Statement (C : Type 0) : Type 0 where
  skip : Statement C
  assign : ℕ → Arithmetic C → Statement C
  sequence : Statement C → Statement C → Statement C
  if : Boolean C → Statement C → Statement C → Statement C
  while : Boolean C → Statement C → Statement C
  throw : Arithmetic C → Statement C
  try : Statement C → ℕ → Statement C → Statement C
  choice : C → Statement C → Statement C → Statement C
