-- `fill` meets its contract: before turn v the first v numbers are what they start with, and no store changes the length.
use mathlib.Core.Path.{◌≡◌}
use lib.ListN.{take}
use Rattle.acceptance.specs.Inner.Comparing.{starts}
use Rattle.acceptance.proofs.numbers.fill.Given as goal

abbrev pub invariant-loop-v : goal.invariant-loop-v
invariant-loop-v l = (take l.v l.numbers ≡ starts l.at l.v)
