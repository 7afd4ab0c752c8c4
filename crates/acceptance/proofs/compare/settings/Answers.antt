-- `settings` meets its contract: a good image has as many settings as its header says, and one that is refused none.
use Rattle.std.specs.Prelude.{Result, Ok}
use mathlib.Core.Path.{◌≡◌, sym, ◌∙◌, ap}
use Prim.Native.Nat.{◌^◌, ◌≤◌}
use native.Mathlib.Omega.{arith}
use lib.Pow.{pow_mono}
use Rattle.sets.proofs.Laws.{one_shl}
use Rattle.image.specs.declared.refusals.Refusal.{Refusal}
use Rattle.image.specs.declared.accept.Shape.{Shape}
use Rattle.image.specs.Records.{header}
use Rattle.image.specs.Bytes.{Bytes}
use Rattle.image.specs.Rows.{Answer, answer, judge, written, check_rows}
use Rattle.image.specs.Check.{answer_of, shape_of}
use Rattle.image.specs.Sets.{settings}
use Rattle.image.proofs.Theorem.Given.{by_answer, written_as_judged}
use Rattle.image.proofs.Theorem.Checked.{good_accepted, good_shape}
use Rattle.acceptance.proofs.compare.settings.Goals as goal

-- the settings, by what the check answered
told_by : (l : Bytes) {a : Answer Shape} → judge (check_rows l) (shape_of l) ≡ a → written (check_rows l) (settings l) 0 ≡ by_answer a (settings l) 0
told_by l e = written_as_judged (check_rows l) (shape_of l) (settings l) 0 ∙ ap (λ a. by_answer a (settings l) 0) e

module _ (l : Bytes) (shape : Shape) {r : Result Shape Refusal} (is : r ≡ Ok shape) (checked : answer_of r ≡ judge (check_rows l) (shape_of l)) where
  told : answer shape ≡ judge (check_rows l) (shape_of l)
  told = ap answer_of (sym is) ∙ checked

  options_are : shape.options ≡ (header l).options
  unfolding shape_of
  options_are = ap (λ (h : Shape). h.options) (good_shape l _ told)

  few : shape.options ≤ 6
  few = omega (arith, options_are, (good_accepted l _ told).few_options)

pub overflow_shl-result : goal.overflow_shl-result
overflow_shl-result c = omega (arith, few c.args.image.now c.in-Ok.shape c.in-Ok.is c.check.ensures)

pub returns-in-Err : goal.returns-in-Err
returns-in-Err c =
    let bytes = c.args.image.now in
    let told = sym c.check.ensures ∙ ap answer_of c.in-Err.is in
    record { upper_bound = omega arith; value = sym (told_by bytes told) }

pub returns-in-Ok : goal.returns-in-Ok
unfolding settings
returns-in-Ok c =
    let bytes = c.args.image.now in
    let shape = c.in-Ok.shape in
    let at_most_6 = few bytes shape c.in-Ok.is c.check.ensures in
    let shifted = one_shl 64 shape.options (omega (arith, at_most_6)) in
    let as_header = options_are bytes shape c.in-Ok.is c.check.ensures in
    record {
      upper_bound = omega (arith, shifted, pow_mono at_most_6);
      value = shifted ∙ ap (λ k. 2 ^ k) as_header ∙ sym (told_by bytes (sym (told bytes shape c.in-Ok.is c.check.ensures)));
    }
