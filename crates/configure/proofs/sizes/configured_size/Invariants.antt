-- `configured_size` meets its contract: before each turn the sizes of the nodes below n are there.
use mathlib.Core.Path.{◌≡◌}
use Prim.Native.Nat.{◌-◌, ◌≤◌}
use lib.ListN.{length}
use Rattle.configure.specs.Inner.Sizing.{SizesOf}
use Rattle.configure.proofs.sizes.configured_size.Given as goal

abbrev pub invariant-loop-n : goal.invariant-loop-n
invariant-loop-n l = (l.n ≤ l.nodes) × (length l.sizes ≡ 1024) × SizesOf l.setting.routine.image.now l.setting.s l.n l.sizes

abbrev pub decreases-loop-n : goal.decreases-loop-n
decreases-loop-n l = l.nodes - l.n
