-- One hall at once answers as the two calls in turn: the promise of specs/OneHall holds.
use Rattle.std.specs.Prelude.{◌≡◌, true, ℕ, length, Result}
use Rattle.std.proofs.Common.{sym, ◌∙◌, ap, true≢false}
use Rattle.imp.specs.State.{Numbers}
use Rattle.image.specs.Check.{answer_of}
use Rattle.image.specs.declared.refusals.Refusal.{Refusal}
use Rattle.image.specs.Bytes.{Bytes}
use Rattle.image.specs.Rows.{refused, numbers}
use Rattle.image.proofs.Theorem.Carried.{among, is_among}
use Rattle.plain.specs.declared.progress.Progress.{Progress}
use Rattle.plain.specs.PlainRun.{hall_rows}
use Rattle.acceptance.specs.InTurn.{InTurn}
use Rattle.acceptance.specs.Theorem.Orders.{hall_order}
use Rattle.acceptance.specs.Theorem.Configured.{enough}
use Rattle.acceptance.specs.Theorem.One.{one_result}
use Rattle.acceptance.specs.Theorem.InTurn.{as_one_hall}
use Rattle.acceptance.specs.OneHall.{OneHall}

-- a refusal of the two in turn is one of one hall's
in_order : {l : Bytes} {s budget : ℕ} {ns ns' : Numbers} {r : Result Progress Refusal} → InTurn l s budget ns ns' r → (n p : ℕ) → answer_of r ≡ refused n p
    → among n (numbers (hall_rows l s budget (length ns))) ≡ true
in_order turn n p e = is_among _ _ n p (sym (as_one_hall _ _ _ _ turn).answered ∙ e)

pub one_hall : (l : Bytes) (s budget : ℕ) (ns : Numbers) → OneHall l s budget ns
one_hall l s budget ns = record {
  as_in_turn = λ ns' ns'' r r' ran turn.
      let kept = as_one_hall l s budget ns turn in
      (one_result r r' ran.answered kept.answered, ran.numbers_are ∙ sym kept.numbers_are);
  no_choice_held = λ ns' r turn p e. true≢false (sym (in_order turn 13 p e) ∙ ap (among 13) (hall_order l s budget (length ns)));
  no_space_short = λ ns' r turn p e. true≢false (sym (in_order turn 14 p e) ∙ ap (among 14) (hall_order l s budget (length ns)));
  space_enough = λ out room acc. enough l s (length out) acc room;
}
