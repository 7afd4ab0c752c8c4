-- The report's text as a function of its input (document 01, "One listing, whole").
use Rattle.std.specs.Prelude.{ℕ, zero, suc, ◌*◌, List, [], ◌∷◌, ◌++◌, ltb, ℤ, pos, length, drop, replicate}
use Rattle.sets.specs.Member.{members}
use Rattle.imp.specs.Shared.{Shared}
use Rattle.image.specs.Bytes.{Bytes, number_at}
use Rattle.image.specs.Rows.{Row, row, Answer, refused, answer, judge}
use Rattle.image.specs.Sets.{settings}
use Rattle.plain.specs.declared.progress.Progress.{Progress}
use Rattle.plain.specs.PlainRun.{progress_of}
use Rattle.shared.specs.declared.Ends.{Ends}
use Rattle.shared.specs.Lent.{Tally, tally}
use Rattle.shared.specs.SharedRun.{meant, ends_of, shared_rows}
use Rattle.text.specs.Decimal.{decimal, signed_decimal}
use Rattle.lines.specs.Words.{space, word, visits_word, faults_word, out_word, refused_word, at_word, field}

-- ---- lines

-- "Fields: setting, outcome in words (idle, done, fault, out), code, steps"
unfoldable pub line : ℕ → Progress → Bytes
line s p = decimal s ++ ((space ++ (word p.outcome ++ space)) ++ (signed_decimal p.code ++ field space p.steps 10))

-- the lines of the first n settings, in order
unfoldable pub lines : ℕ → Shared → Bytes
lines zero Σ = []
lines (suc n) Σ = lines n Σ ++ line n (progress_of (Σ.at n))

-- "then visits and the number of members of the two sets"
unfoldable pub last_line : Ends → Bytes
last_line e = field visits_word e.visits 32 ++ (field faults_word (members e.fault.bits 64) 32 ++ field out_word (members e.out.bits 64) 10)

-- "A refusal prints one line, its number and place"
unfoldable pub refusal_line : ℕ → ℕ → Bytes
refusal_line number place = field refused_word number 32 ++ field at_word place 10

-- ---- the input

-- "the set in 8 bytes and the budget in 4, most significant first, then the image"
abbrev pub set_in : Bytes → ℕ
set_in input = number_at input 0 8

abbrev pub budget_in : Bytes → ℕ
budget_in input = number_at input 8 4

abbrev pub image_in : Bytes → Bytes
image_in input = drop 12 input

-- "all numbers start at 0": what the report lends to the run over N settings
unfoldable pub zeros : ℕ → List ℤ
zeros N = replicate (N * 16) (pos 0)

unfoldable pub blank : ℕ → Tally
blank N = tally (replicate N 0) (replicate N (pos 0)) (replicate N 0)

-- ---- the text

-- the run of an image, and its rows
unfoldable pub run_of : Bytes → ℕ → ℕ → Shared
run_of l set budget = meant l set budget (zeros (settings l))

unfoldable pub run_rows : Bytes → ℕ → ℕ → List Row
run_rows l set budget = shared_rows l set budget (zeros (settings l)) (blank (settings l))

-- 16: "report input under 12 bytes"
abbrev pub input_row : Bytes → Row
input_row input = row 16 (ltb (length input) 12)

-- "The report program tests 16 first, then as the shared run"
unfoldable pub report_rows : Bytes → List Row
report_rows input = input_row input ∷ run_rows (image_in input) (set_in input) (budget_in input)

-- what is said of a run over N settings, or of a refusal
unfoldable pub told : ℕ → Answer Shared → Bytes
told N (refused number place) = refusal_line number place
told N (answer Σ) = lines N Σ ++ last_line (ends_of N Σ)

abbrev pub run_text : Bytes → ℕ → ℕ → Bytes
run_text l set budget = told (settings l) (judge (run_rows l set budget) (run_of l set budget))

-- the report's
unfoldable pub text : Bytes → Bytes
text input = told (settings (image_in input)) (judge (report_rows input) (run_of (image_in input) (set_in input) (budget_in input)))
