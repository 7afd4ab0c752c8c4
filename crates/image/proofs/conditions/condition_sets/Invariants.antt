-- `condition_sets` meets its contract: before each turn the sets of the conditions below k are there.
use Prim.Native.Nat.{◌-◌, ◌≤◌}
use Rattle.image.specs.Inner.SetsOf.{TableOf}
use Rattle.image.proofs.conditions.condition_sets.Given as goal

abbrev pub invariant-loop-k : goal.invariant-loop-k
invariant-loop-k l = (l.k ≤ l.conditions) × TableOf l.image l.k l.sets

abbrev pub decreases-loop-k : goal.decreases-loop-k
decreases-loop-k l = l.conditions - l.k
