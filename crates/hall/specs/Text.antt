-- The text of one hall as a function of its input (document 02, C-18, "only the answer"): the report's line of the setting, then a line for each variable.
use Rattle.std.specs.Prelude.{ℕ, zero, suc, ◌+◌, ◌*◌, List, [], ◌∷◌, ◌++◌, ℤ, pos, get_or}
use Rattle.imp.specs.State.{Numbers, State}
use Rattle.image.specs.Bytes.{Bytes}
use Rattle.image.specs.Rows.{Row, Answer, refused, answer, judge}
use Rattle.plain.specs.PlainRun.{meant_in, progress_of, hall_rows}
use Rattle.text.specs.Decimal.{decimal, signed_decimal}
use Rattle.lines.specs.Words.{space}
use Rattle.lines.specs.Text.{line, refusal_line, set_in, budget_in, image_in, zeros, input_row}

-- ---- lines

-- `v0 380`: variable v holds z
unfoldable pub variable_line : ℕ → ℤ → Bytes
variable_line v z = (118 ∷ []) ++ (decimal v ++ (space ++ (signed_decimal z ++ (10 ∷ []))))

-- the lines of the first n variables, in order
unfoldable pub variable_lines : ℕ → Numbers → Bytes
variable_lines zero ns = []
variable_lines (suc n) ns = variable_lines n ns ++ variable_line n (get_or ns n (pos 0))

-- ---- the input

-- the setting stands where the report's input has its set
abbrev pub setting_in : Bytes → ℕ
setting_in = set_in

-- ---- the text

-- the run of an image in setting s, where "all numbers start at 0", and its rows
unfoldable pub run_of : Bytes → ℕ → ℕ → State
run_of l s budget = meant_in s l budget (zeros 1)

abbrev pub run_rows : Bytes → ℕ → ℕ → List Row
run_rows l s budget = hall_rows l s budget 16

-- as the report "tests 16 first", then as the run of one hall
abbrev pub rows : Bytes → List Row
rows input = input_row input ∷ run_rows (image_in input) (setting_in input) (budget_in input)

-- what is said of a run in setting s, or of a refusal
unfoldable pub told : ℕ → Answer State → Bytes
told s (refused number place) = refusal_line number place
told s (answer σ) = line s (progress_of σ) ++ variable_lines 16 σ.numbers

abbrev pub run_text : Bytes → ℕ → ℕ → Bytes
run_text l s budget = told s (judge (run_rows l s budget) (run_of l s budget))

-- the program's
unfoldable pub text : Bytes → Bytes
text input = told (setting_in input) (judge (rows input) (run_of (image_in input) (setting_in input) (budget_in input)))

-- a space that every text fits: the setting's line, of at most 32 bytes, and sixteen of at most 16
abbrev pub enough : ℕ
enough = 32 + 16 * 16
