-- `ask_for` meets its contract: before each turn the settings below s whose answer is yes are found.
use mathlib.Core.Path.{◌≡◌}
use Rattle.sets.specs.Member.{bit}
use Rattle.shared.specs.Inner.Handed.{image_in}
use Rattle.shared.specs.Inner.Asking.{answers}
use Rattle.shared.proofs.Found.{Found}
use Rattle.shared.proofs.ask.ask_for.Given as goal

abbrev pub invariant-loop-s : goal.invariant-loop-s
invariant-loop-s l = (l.setting.routine.image.now ≡ image_in l.plan) × Found l.s (bit l.on.bits) (answers (image_in l.plan) l.node l.lent) l.found.bits
