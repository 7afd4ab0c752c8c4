-- How far a setting is, in numbers: its outcome, its code and its steps, and the state that they stand for together with its sixteen numbers.
use Rattle.std.specs.Prelude.{◌≡◌, ℕ, [], ◌∷◌, ℤ, get_or}
use Rattle.imp.specs.State.{Numbers, Outcome, idle, done, fault, out, outcome_number, code, State}
use Rattle.plain.specs.declared.progress.Progress.{Progress}

-- "Outcomes: 0 idle, 1 done, 2 fault, 3 out. A code is the fault's number for fault, else 0." Any other number is read as idle, and is not `Proper`
unfoldable pub outcome_from : ℕ → ℤ → Outcome
outcome_from n c = get_or (idle ∷ done ∷ fault c ∷ out ∷ []) n idle

unfoldable pub state_of : Progress → Numbers → State
state_of p ns = record { numbers = ns; outcome = outcome_from p.outcome p.code; steps = p.steps }

-- the numbers are those of an outcome: 0 to 3, and no code but a fault's
pub record Proper (outcome : ℕ) (c : ℤ) : Type 0 where
  pub outcome_is : outcome_number (outcome_from outcome c) ≡ outcome
  pub code_is : code (outcome_from outcome c) ≡ c
