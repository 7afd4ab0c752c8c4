-- `begin_for` meets its contract: before each turn the settings below s are begun.
use mathlib.Core.Path.{◌≡◌}
use Rattle.shared.specs.Inner.Handed.{tally_in, Same}
use Rattle.shared.proofs.Beginning.{BegunBelow}
use Rattle.shared.proofs.begin.begin_for.Given as goal

abbrev pub invariant-loop-s : goal.invariant-loop-s
invariant-loop-s l =
    Same l.initial.lent l.lent
    × BegunBelow l.plan.settings l.plan.budget l.turn.on l.s (tally_in l.initial.lent) (tally_in l.lent) l.left
    × (l.lent.store.now ≡ l.initial.lent.store.now)
