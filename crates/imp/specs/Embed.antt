-- A plain routine among the routines with choices: the same tree.
use Rattle.imp.specs.Condition.{Condition}
use Rattle.imp.specs.Routine.{Arithmetic, number, variable, sum, pick, choiceᵃ, Boolean, falseᵇ, trueᵇ, notᵇ, andᵇ, less, choiceᵇ, Statement, skip, assign, sequence, if, while, throw, try, choice}

unfoldable mutual
  pub embedᵃ : Arithmetic ⊥ → Arithmetic Condition
  embedᵃ (number n) = number n
  embedᵃ (variable v) = variable v
  embedᵃ (sum a b) = sum (embedᵃ a) (embedᵃ b)
  embedᵃ (pick e a b) = pick (embedᵇ e) (embedᵃ a) (embedᵃ b)
  embedᵃ (choiceᵃ c a b) = absurd c

  pub embedᵇ : Boolean ⊥ → Boolean Condition
  embedᵇ falseᵇ = falseᵇ
  embedᵇ trueᵇ = trueᵇ
  embedᵇ (notᵇ e) = notᵇ (embedᵇ e)
  embedᵇ (andᵇ e f) = andᵇ (embedᵇ e) (embedᵇ f)
  embedᵇ (less a b) = less (embedᵃ a) (embedᵃ b)
  embedᵇ (choiceᵇ c e f) = absurd c

unfoldable pub embed : Statement ⊥ → Statement Condition
embed skip = skip
embed (assign v a) = assign v (embedᵃ a)
embed (sequence x y) = sequence (embed x) (embed y)
embed (if e x y) = if (embedᵇ e) (embed x) (embed y)
embed (while e x) = while (embedᵇ e) (embed x)
embed (throw a) = throw (embedᵃ a)
embed (try x v y) = try (embed x) v (embed y)
embed (choice c x y) = absurd c
