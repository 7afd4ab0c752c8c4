-- `act_for` meets its contract: before each turn the settings of the set below s have had theirs.
use mathlib.Core.Path.{◌≡◌}
use Rattle.sets.specs.Member.{bit}
use Rattle.image.specs.Sets.{settings}
use Rattle.shared.specs.Inner.Lent.{Measured, own}
use Rattle.shared.specs.Inner.Handed.{image_in, tally_in, Same}
use Rattle.shared.specs.Inner.Acting.{acting}
use Rattle.shared.proofs.Each.{Upto}
use Rattle.shared.proofs.act.act_for.Given as goal

abbrev pub invariant-loop-s : goal.invariant-loop-s
invariant-loop-s l =
    Same l.initial.lent l.lent
    × (l.setting.routine.image.now ≡ image_in l.plan)
    × Measured (settings (image_in l.plan)) l.lent.store.now (tally_in l.lent)
    × Upto l.s (bit l.on.bits) (acting (image_in l.plan) l.node) (own l.initial.lent.store.now (tally_in l.initial.lent)) (own l.lent.store.now (tally_in l.lent))
