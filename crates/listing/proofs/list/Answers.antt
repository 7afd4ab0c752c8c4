-- `list` meets its contract: the check's refusal, or what is left to rows 18 and 14.
use Rattle.std.proofs.Common.{Result, Err}
use mathlib.Core.Path.{◌≡◌, sym, ◌∙◌}
use mathlib.Core.List.{List}
use Prim.Native.Nat.{ℕ}
use lib.ListN.{length}
use Rattle.image.specs.declared.refusals.Refusal.{Refusal}
use Rattle.image.specs.Refusals.{number_of, place_of}
use Rattle.image.specs.Rows.{refused, judge, check_rows}
use Rattle.image.specs.Check.{shape_of}
use Rattle.image.specs.Accepted.{Accepted}
use Rattle.image.proofs.Theorem.Accepted.{accepts}
use Rattle.image.proofs.Theorem.Checked.{good_accepted, good_shape}
use Rattle.image.proofs.Theorem.Then.{judge_then, judge_stops, written_then, written_stops}
use Rattle.std.proofs.lemmas.Result.{err_from_is_err_and}
use Rattle.listing.specs.Lists.{text_rows, list_rows, Lists}
use Rattle.listing.proofs.list.Goals as goal

module _ (l out : List ℕ) where
  refused_first : (r : Refusal) → refused (number_of r) (place_of r) ≡ judge (check_rows l) (shape_of l)
      → Lists (list_rows l (length out)) l out out (Err r)
  unfolding list_rows
  refused_first r e = record {
    answered = sym (judge_stops (shape_of l) (check_rows l) _ _ _ _ (sym e));
    out_is = sym (written_stops (shape_of l) (check_rows l) _ _ _ _ _ (sym e));
  }

  goes_on : Accepted l → {out' : List ℕ} {r : Result ℕ Refusal} → Lists (text_rows l (length out)) l out out' r → Lists (list_rows l (length out)) l out out' r
  unfolding list_rows
  goes_on a h = record {
    answered = h.answered ∙ sym (judge_then (shape_of l) (check_rows l) _ _ (accepts l (shape_of l) a));
    out_is = h.out_is ∙ sym (written_then (shape_of l) (check_rows l) _ _ _ (accepts l (shape_of l) a));
  }

pub list_good-requires : goal.list_good-requires
list_good-requires c =
    let told = c.in_ok-shape.ensures in
    record { accepted = good_accepted _ _ told; shape_is = good_shape _ _ told }

pub returns-in_err-shape : goal.returns-in_err-shape
returns-in_err-shape c =
    let p = err_from_is_err_and c.from_residual.result c.from_residual.ensures.1 in
    rw (p.1, p.2) (refused_first _ _ _ c.in_err-shape.ensures)

pub returns : goal.returns
returns c = goes_on _ _ (good_accepted _ _ c.in_ok-shape.ensures) c.list_good.ensures
