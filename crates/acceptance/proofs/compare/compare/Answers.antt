-- `compare` meets its contract: what it lends has the lengths for as many settings as there are, and then condition 3 makes each comparison true.
use Rattle.std.specs.Prelude.{Option}
use mathlib.Core.Path.{◌≡◌, refl, sym, ◌∙◌}
use mathlib.Core.List.{List}
use Prim.Native.Nat.{ℕ, ◌≤◌}
use native.Mathlib.Omega.{arith}
use lib.IntN.{ℤ}
use lib.ListN.{length, take}
use lib.Seq.{length-take-le}
use Rattle.image.specs.Bytes.{Bytes}
use Rattle.image.specs.Rows.{written, check_rows}
use Rattle.image.specs.Sets.{settings}
use Rattle.shared.specs.Lent.{tally}
use Rattle.acceptance.specs.declared.compare.Compared.{Compared}
use Rattle.acceptance.specs.Inner.Comparing.{compared}
use Rattle.acceptance.specs.Inner.Expected.{expected}
use Rattle.acceptance.specs.Theorem.Answered.{always}
use Rattle.acceptance.proofs.compare.compare.Goals as goal

-- the first n of what is made for 64 settings
module _ (n : ℕ) (outcomes : List ℕ) (codes : List ℤ) (steps : List ℕ) (few : n ≤ 64) (long_outcomes : length outcomes ≡ 64)
    (long_codes : length codes ≡ 64) (long_steps : length steps ≡ 64) where
  outcomes_taken : length (take n outcomes) ≡ n
  outcomes_taken = length-take-le n outcomes (omega arith)

  codes_taken : length (take n codes) ≡ n
  codes_taken = length-take-le n codes (omega arith)

  steps_taken : length (take n steps) ≡ n
  steps_taken = length-take-le n steps (omega arith)

  as_expected : (l : Bytes) (set budget : ℕ) {r : Option Compared} → n ≡ written (check_rows l) (settings l) 0
      → r ≡ compared (length (take n outcomes)) l set budget (tally (take n outcomes) (take n codes) (take n steps)) → r ≡ expected l set budget
  as_expected l set budget are e =
      e
      ∙ always l set budget (tally (take n outcomes) (take n codes) (take n steps)) (length (take n outcomes)) (outcomes_taken ∙ are) refl
      (codes_taken ∙ sym outcomes_taken)
      (steps_taken ∙ sym outcomes_taken)

pub returns : goal.returns
returns c =
    as_expected c.settings-n.result _ _ _ c.settings-n.ensures.upper_bound refl refl refl c.args.image.now c.args.set.bits c.args.budget
    c.settings-n.ensures.value c.compare_lent.ensures
