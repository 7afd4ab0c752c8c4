-- What `compare` answers: "refused" where tests 1 to 10 refuse the image, the set or the budget, and otherwise that condition 3 holds.
use Rattle.std.specs.Prelude.{true, List, [], ◌∷◌, ◌++◌, ℕ, ◌*◌, Option, Some, None}
use Rattle.imp.specs.Shared.{beyond}
use Rattle.image.specs.Bytes.{Bytes}
use Rattle.image.specs.Rows.{Row, row, Answer, refused, answer, judge, check_rows}
use Rattle.image.specs.Sets.{settings}
use Rattle.plain.specs.PlainRun.{budget_row}
use Rattle.shared.specs.SharedRun.{meant}
use Rattle.acceptance.specs.declared.compare.Compared.{Compared}
use Rattle.acceptance.specs.Inner.Comparing.{starts}

-- "shared run 9, 10", after tests 1 to 8; what is lent is made to measure
unfoldable pub compare_rows : Bytes → ℕ → ℕ → List Row
compare_rows l set budget = check_rows l ++ (row 9 (beyond (settings l) set) ∷ budget_row budget ∷ [])

abbrev pub verdict : Answer Compared → Option Compared
verdict (refused n p) = None
verdict (answer c) = Some c

unfoldable pub holding : Bytes → ℕ → ℕ → Compared
holding l set budget = record { settings = settings l; visits = (meant l set budget (starts 0 (settings l * 16))).visits; holds = true }

unfoldable pub expected : Bytes → ℕ → ℕ → Option Compared
expected l set budget = verdict (judge (compare_rows l set budget) (holding l set budget))
