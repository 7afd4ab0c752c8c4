-- Conditions on options, and the settings in which they hold (document 01, "The image"; Figure 5.1, "Conditions").
use Rattle.std.specs.Prelude.{ℕ, Bool, true, false, not, ◌&&◌, ◌||◌}
use Rattle.sets.specs.Member.{bit}

-- the six kinds of a condition record
pub data Condition : Type 0 where
  falseᶜ trueᶜ : Condition
  option : ℕ → Condition
  notᶜ : Condition → Condition
  andᶜ orᶜ : Condition → Condition → Condition

-- "Option k is on in setting s exactly when bit k of s (weight 2^k) is one."
unfoldable pub on_in : ℕ → ℕ → Bool
on_in k s = bit s k

-- the condition is true in setting s
unfoldable pub holds : Condition → ℕ → Bool
holds falseᶜ s = false
holds trueᶜ s = true
holds (option k) s = on_in k s
holds (notᶜ c) s = not (holds c s)
holds (andᶜ c d) s = holds c s && holds d s
holds (orᶜ c d) s = holds c s || holds d s
