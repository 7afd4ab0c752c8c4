-- `count_names` meets its contract: after n nodes each counter has the names that they give its node.
use mathlib.Core.Path.{◌≡◌}
use Prim.Native.Nat.{ℕ}
use lib.ListN.{length, get_or}
use Rattle.image.specs.Rows.{names}
use Rattle.image.proofs.names.count_names.Given as goal

abbrev pub invariant-loop-n : goal.invariant-loop-n
invariant-loop-n l = (length l.counts ≡ length l.initial.counts) × ((k : ℕ) → get_or l.counts k 0 ≡ names l.routine.image.now l.n k)
