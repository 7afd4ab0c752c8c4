-- What a run of one setting answers and what it leaves in the numbers: the plain run (document 01, "Plain run", and rows 13, 10 and 12 of the table), and the
-- run of one hall (document 02, C-18).
use Rattle.std.specs.Prelude.{◌≡◌, ℕ, not, List, [], ◌∷◌, ◌++◌, eqb, ltb, Result}
use Rattle.imp.specs.State.{Numbers, State, outcome_number, code}
use Rattle.imp.specs.Configure.{configure}
use Rattle.imp.specs.Plain.{plain_run}
use Rattle.image.specs.declared.refusals.Refusal.{Refusal}
use Rattle.image.specs.Bytes.{Bytes}
use Rattle.image.specs.Records.{header, node}
use Rattle.image.specs.Check.{answer_of}
use Rattle.image.specs.Layout.{is_choice}
use Rattle.image.specs.Rows.{Row, row, lowest_row, judge, written, check_rows}
use Rattle.image.specs.Sets.{setting_row}
use Rattle.image.specs.Tree.{routine}
use Rattle.plain.specs.declared.progress.Progress.{Progress}

-- the run's meaning in setting s: that of the routine configured for it
unfoldable pub meant_in : ℕ → Bytes → ℕ → Numbers → State
meant_in s l budget ns = plain_run budget (configure s (routine l)) ns

-- the plain run's meaning: an image that holds no choice is the same routine in every setting
abbrev pub meant : Bytes → ℕ → Numbers → State
meant = meant_in 0

-- "answers outcome, code, steps"
unfoldable pub progress_of : State → Progress
progress_of σ = record { outcome = outcome_number σ.outcome; code = code σ.outcome; steps = σ.steps }

-- 10: "budget over 100,000"
abbrev pub budget_row : ℕ → Row
budget_row budget = row 10 (ltb 100000 budget)

-- 12: "store (.. in a plain run 16) .. not of exact length"
unfoldable pub lent_rows : ℕ → ℕ → List Row
lent_rows budget space = budget_row budget ∷ row 12 (not (eqb space 16)) ∷ []

-- 13: "plain run of an image that holds a choice", at the "lowest choice"
abbrev pub choice_row : Bytes → Row
choice_row l = lowest_row 13 (header l).nodes (λ n. is_choice (node l n).kind)

-- "plain run 13, 10, 12"
unfoldable pub plain_rows : Bytes → ℕ → ℕ → List Row
plain_rows l budget space = check_rows l ++ (choice_row l ∷ lent_rows budget space)

-- "Refusals: 1 to 8, 11, 10, 12 in that order"
unfoldable pub hall_rows : Bytes → ℕ → ℕ → ℕ → List Row
hall_rows l s budget space = check_rows l ++ (setting_row l s ∷ lent_rows budget space)

-- what the run in setting s answers and what it leaves, where `rows` are still to be tested
pub record RunsIn (s : ℕ) (rows : List Row) (l : Bytes) (budget : ℕ) (ns ns' : Numbers) (r : Result Progress Refusal) : Type 0 where
  pub answered : answer_of r ≡ judge rows (progress_of (meant_in s l budget ns))
  pub numbers_are : ns' ≡ written rows (meant_in s l budget ns).numbers ns

-- what the plain run does
abbrev pub Runs : List Row → Bytes → ℕ → Numbers → Numbers → Result Progress Refusal → Type 0
Runs = RunsIn 0
