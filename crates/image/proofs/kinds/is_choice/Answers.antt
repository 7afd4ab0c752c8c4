-- `is_choice` meets its contract: the digit of a is a condition's.
use mathlib.Core.Path.{ap}
use Prim.Native.Nat.{◌/◌, ◌%◌}
use lib.Dec.{eqb}
use Rattle.image.specs.Layout.{is_choice}
use Rattle.image.proofs.kinds.is_choice.Goals as goal

pub returns : goal.returns
unfolding is_choice
returns c = ap (λ digits. eqb (digits / 64 % 8) 4) c.layout.ensures
