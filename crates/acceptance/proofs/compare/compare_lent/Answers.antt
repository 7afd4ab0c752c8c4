-- `compare_lent` meets its contract: the shared run answers and leaves what its promise says.
use Rattle.std.specs.Prelude.{◌≡◌, length, Result, Ok, Err, Some, None}
use Rattle.std.specs.Result.{result_ok}
use Rattle.std.proofs.Common.{refl, ◌∙◌, ap}
use Rattle.shared.specs.Lent.{tally}
use Rattle.acceptance.specs.Inner.Comparing.{starts}
use Rattle.acceptance.specs.Theorem.Compared.{shared_refused, shared_ended}
use Rattle.acceptance.proofs.compare.compare_lent.Goals as goal

-- what `.ok()` says of the result that it is of
was_err : {A E : Type 0} (r : Result A E) → None ≡ result_ok r → (e : E) × (r ≡ Err e)
was_err (Ok x) is = cc
was_err (Err e) is = (e, refl)

was_ok : {A E : Type 0} (r : Result A E) (x : A) → Some x ≡ result_ok r → r ≡ Ok x
was_ok (Ok y) x is = let same : y ≡ x = cc in ap Ok same
was_ok (Err e) x is = cc

pub returns-in_err-ends : goal.returns-in_err-ends
returns-in_err-ends c =
    let new = c.shared_run.new in
    let refusal = was_err c.shared_run.result c.in_err-ends.ensures.value in
    c.from_residual.ensures
    ∙ shared_refused (length c.args.outcomes.now) {T = tally _ _ _} {T' = tally new.outcomes new.codes new.steps}
    (c.fill.ensures ∙ ap (starts 0) c.requires.store_is) c.shared_run.ensures refusal.1

pub returns : goal.returns
returns c =
    let new = c.shared_run.new in
    let ended = was_ok c.shared_run.result _ c.in_ok-ends.ensures.value in
    shared_ended (length c.args.outcomes.now) {T = tally _ _ _} {T' = tally new.outcomes new.codes new.steps}
    (c.fill.ensures ∙ ap (starts 0) c.requires.store_is) c.shared_run.ensures ended c.all_hold-holds.ensures
