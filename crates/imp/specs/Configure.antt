-- "Configuring for setting s replaces each choice by b if s is in its condition, else by c." What comes out can hold no choice, by its type.
use Rattle.std.specs.Prelude.{ℕ, cond}
use Rattle.imp.specs.Condition.{Condition, holds}
use Rattle.imp.specs.Routine.{Arithmetic, number, variable, sum, pick, choiceᵃ, Boolean, falseᵇ, trueᵇ, notᵇ, andᵇ, less, choiceᵇ, Statement, skip, assign, sequence, if, while, throw, try, choice}

unfoldable mutual
  pub configureᵃ : ℕ → Arithmetic Condition → Arithmetic ⊥
  configureᵃ s (number n) = number n
  configureᵃ s (variable v) = variable v
  configureᵃ s (sum a b) = sum (configureᵃ s a) (configureᵃ s b)
  configureᵃ s (pick e a b) = pick (configureᵇ s e) (configureᵃ s a) (configureᵃ s b)
  configureᵃ s (choiceᵃ c a b) = cond (holds c s) (configureᵃ s a) (configureᵃ s b)

  pub configureᵇ : ℕ → Boolean Condition → Boolean ⊥
  configureᵇ s falseᵇ = falseᵇ
  configureᵇ s trueᵇ = trueᵇ
  configureᵇ s (notᵇ e) = notᵇ (configureᵇ s e)
  configureᵇ s (andᵇ e f) = andᵇ (configureᵇ s e) (configureᵇ s f)
  configureᵇ s (less a b) = less (configureᵃ s a) (configureᵃ s b)
  configureᵇ s (choiceᵇ c e f) = cond (holds c s) (configureᵇ s e) (configureᵇ s f)

unfoldable pub configure : ℕ → Statement Condition → Statement ⊥
configure s skip = skip
configure s (assign v a) = assign v (configureᵃ s a)
configure s (sequence x y) = sequence (configure s x) (configure s y)
configure s (if e x y) = if (configureᵇ s e) (configure s x) (configure s y)
configure s (while e x) = while (configureᵇ s e) (configure s x)
configure s (throw a) = throw (configureᵃ s a)
configure s (try x v y) = try (configure s x) v (configure s y)
configure s (choice c x y) = cond (holds c s) (configure s x) (configure s y)
