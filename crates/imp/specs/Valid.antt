-- What an image can hold: "16 variables, 0 to 15, of 32 bits signed", so a routine's numbers are of 32 bits and its variables below 16.
use Rattle.std.specs.Prelude.{◌<◌, FitsSigned}
use Rattle.std.specs.Int.{w32}
use Rattle.imp.specs.Routine.{Arithmetic, number, variable, sum, pick, choiceᵃ, Boolean, falseᵇ, trueᵇ, notᵇ, andᵇ, less, choiceᵇ, Statement, skip, assign, sequence, if, while, throw, try, choice}

unfoldable mutual
  pub Validᵃ : {C : Type 0} → Arithmetic C → Type 0
  Validᵃ (number n) = FitsSigned w32 n
  Validᵃ (variable v) = v < 16
  Validᵃ (sum a b) = Validᵃ a × Validᵃ b
  Validᵃ (pick e a b) = Validᵇ e × Validᵃ a × Validᵃ b
  Validᵃ (choiceᵃ c a b) = Validᵃ a × Validᵃ b

  pub Validᵇ : {C : Type 0} → Boolean C → Type 0
  Validᵇ falseᵇ = Unit {0}
  Validᵇ trueᵇ = Unit {0}
  Validᵇ (notᵇ e) = Validᵇ e
  Validᵇ (andᵇ e f) = Validᵇ e × Validᵇ f
  Validᵇ (less a b) = Validᵃ a × Validᵃ b
  Validᵇ (choiceᵇ c e f) = Validᵇ e × Validᵇ f

unfoldable pub Valid : {C : Type 0} → Statement C → Type 0
Valid skip = Unit {0}
Valid (assign v a) = (v < 16) × Validᵃ a
Valid (sequence x y) = Valid x × Valid y
Valid (if e x y) = Validᵇ e × Valid x × Valid y
Valid (while e x) = Validᵇ e × Valid x
Valid (throw a) = Validᵃ a
Valid (try x v y) = Valid x × (v < 16) × Valid y
Valid (choice c x y) = Valid x × Valid y
