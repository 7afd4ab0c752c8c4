-- Every text fits a space of 288 bytes: the run is in one of at most 64 settings, and its code and its numbers are of 32 bits.
use Rattle.std.specs.Prelude.{◌≡◌, List, [], ◌∷◌, ◌++◌, ℕ, zero, suc, ◌*◌, ◌≤◌, ◌<◌, ℤ, pos, get_or}
use Rattle.std.proofs.Math.Path.{refl, sym, subst}
use Rattle.std.proofs.Common.{◌∙◌, SFits}
use native.Mathlib.Omega.{arith}
use Rattle.std.proofs.Math.ListN.{length, length-append}
use Rattle.std.specs.Int.{w32}
use borrow.Author.Tests.{ltb-true, ltb-false, not-false}
use Rattle.imp.specs.Configure.{configure}
use Rattle.imp.specs.State.{Numbers, State}
use Rattle.imp.proofs.Theorem.Configured.{configured_valid}
use Rattle.imp.proofs.Theorem.Range.{AllFit, get_or_fits, InRange, plain_range}
use Rattle.image.specs.Bytes.{Bytes}
use Rattle.image.specs.Rows.{Answer, refused, answer, judge, check_rows, NoneFails}
use Rattle.image.specs.Sets.{settings, setting_row}
use Rattle.image.specs.Tree.{routine}
use Rattle.image.specs.Accepted.{Accepted}
use Rattle.image.proofs.Theorem.Given.{answered, carried_out}
use Rattle.image.proofs.Theorem.Carried.{none_each}
use Rattle.image.proofs.Theorem.Accepted.{all_passed}
use Rattle.plain.specs.PlainRun.{meant_in, progress_of, lent_rows, hall_rows}
use Rattle.text.specs.Decimal.{decimal, signed_decimal}
use Rattle.lines.specs.Words.{space}
use Rattle.lines.specs.Text.{line, budget_in, image_in, zeros}
use Rattle.lines.specs.Theorem.Lengths.{two, eleven, line_length}
use Rattle.lines.specs.Theorem.Fits.{refusal_fits, zeros_fit, routine_valid, few_settings}
use Rattle.hall.specs.Text.{variable_line, variable_lines, setting_in, run_of, run_rows, rows, told, text, enough}

-- ---- the lines

pub variable_length : (v : ℕ) (z : ℤ) → v < 16 → SFits w32 z → length (variable_line v z) ≤ 16
unfolding variable_line
variable_length v z h f =
    let number : List ℕ = signed_decimal z ++ (10 ∷ []) in
    omega (
      arith,
      two v (omega arith),
      eleven z f,
      length-append (decimal v) (space ++ number),
      length-append (signed_decimal z) (10 ∷ []),
    )

variables_fit : (n : ℕ) (ns : Numbers) → n ≤ 16 → AllFit ns → length (variable_lines n ns) ≤ n * 16
unfolding variable_lines
variables_fit zero ns h f = omega arith
variables_fit (suc n) ns h f =
    omega (
      arith,
      length-append (variable_lines n ns) (variable_line n (get_or ns n (pos 0))),
      variable_length n (get_or ns n (pos 0)) (omega arith) (get_or_fits ns n f),
      variables_fit n ns (omega arith) f,
    )

-- ---- a run that is carried out

module _ (l : Bytes) (s budget : ℕ) where
  ranged : Accepted l → InRange budget (zeros 1) (run_of l s budget)
  unfolding run_of meant_in zeros
  ranged acc = plain_range budget (configure s (routine l)) (zeros 1) (configured_valid s (routine l) (routine_valid l acc)) (zeros_fit 16)

  module _ (none : NoneFails (run_rows l s budget)) where
    abbrev σ : State
    σ = run_of l s budget

    each : NoneFails (check_rows l) × NoneFails (setting_row l s ∷ lent_rows budget 16)
    unfolding hall_rows
    each = none_each (check_rows l) (setting_row l s ∷ lent_rows budget 16) none

    is_accepted : Accepted l
    is_accepted = all_passed l each.0

    pub below : s < 64
    below = omega (arith, few_settings l is_accepted, ltb-true s (settings l) (not-false _ each.1.0))

    allowed : budget ≤ 100000
    unfolding lent_rows
    allowed = ltb-false 100000 budget each.1.1.0

    pub line_fits : length (line s (progress_of σ)) ≤ 32
    unfolding progress_of
    line_fits =
        let r : InRange budget (zeros 1) σ = ranged is_accepted in
        line_length s (progress_of σ) below r.code_fits (omega (arith, allowed, r.within))

    run_fits : length (told s (answer σ)) ≤ enough
    unfolding told
    run_fits =
        omega (
          arith,
          length-append (line s (progress_of σ)) (variable_lines 16 σ.numbers),
          line_fits,
          variables_fit 16 σ.numbers (omega arith) (ranged is_accepted).numbers_fit,
        )

-- ---- the theorem

module _ (input : Bytes) where
  abbrev end : State
  end = run_of (image_in input) (setting_in input) (budget_in input)

  answer_fits : (a : Answer State) → judge (rows input) end ≡ a → length (told (setting_in input) a) ≤ enough
  unfolding told
  answer_fits (refused n p) e = omega (arith, refusal_fits n p)
  answer_fits (answer σ') e =
      let none : NoneFails (rows input) = answered end (rows input) σ' e in
      let same : answer σ' ≡ answer end = sym e ∙ (carried_out end (rows input)).1 none in
      subst (λ a. length (told (setting_in input) a) ≤ enough) (sym same)
      (run_fits (image_in input) (setting_in input) (budget_in input) none.1)

  pub text_fits : length (text input) ≤ enough
  unfolding text
  text_fits = answer_fits (judge (rows input) end) refl
