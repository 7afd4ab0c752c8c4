-- One hall's run of a setting of an accepted image: its tests pass, and it is the run of the routine configured for the setting.
use Rattle.std.specs.Prelude.{◌≡◌, List, ℕ, ◌≤◌, ◌<◌, length, Result, Ok}
use Rattle.std.proofs.Common.{◌∙◌, lt-ltb, le-ltb, eq-eqb}
use Rattle.std.proofs.Math.Path.{ap}
use Rattle.std.proofs.Math.Bool.{not}
use Rattle.imp.specs.State.{Numbers, State}
use Rattle.image.specs.declared.refusals.Refusal.{Refusal}
use Rattle.image.specs.Bytes.{Bytes}
use Rattle.image.specs.Rows.{Row, check_rows, NoneFails}
use Rattle.image.specs.Sets.{settings}
use Rattle.image.proofs.Theorem.Given.{answered, carried_out}
use Rattle.image.specs.Accepted.{Accepted}
use Rattle.image.proofs.Theorem.Accepted.{accepts}
use Rattle.image.proofs.Theorem.Carried.{none_both, written_new}
use Rattle.plain.specs.declared.progress.Progress.{Progress}
use Rattle.plain.specs.PlainRun.{meant_in, progress_of, lent_rows, hall_rows, RunsIn}
use Rattle.acceptance.specs.Theorem.One.{no_refusal}

module _ (l : Bytes) (acc : Accepted l) (s budget : ℕ) (below : s < settings l) (allowed : budget ≤ 100000) (ns : Numbers) (sixteen : length ns ≡ 16) where
  abbrev rows : List Row
  rows = hall_rows l s budget (length ns)

  abbrev end : State
  end = meant_in s l budget ns

  pub none : NoneFails rows
  unfolding hall_rows lent_rows
  none = none_both (check_rows l) _ (answered budget (check_rows l) budget (accepts l budget acc)) (
    ap (λ u. not u) (lt-ltb s (settings l) below),
    (le-ltb 100000 budget allowed, (ap (λ u. not u) (eq-eqb (length ns) 16 sixteen), tt)),
  )

  pub hall_ends : {ns' : Numbers} {r : Result Progress Refusal} → RunsIn s rows l budget ns ns' r → (r ≡ Ok (progress_of end)) × (ns' ≡ end.numbers)
  hall_ends {r = r} ran = (
    no_refusal r _ (ran.answered ∙ (carried_out _ rows).1 none),
    ran.numbers_are ∙ written_new rows _ ns none,
  )
