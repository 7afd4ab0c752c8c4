-- `fill` meets its contract: before each turn the numbers below k are there.
use Rattle.std.proofs.Common.{◌≤◌}
use Rattle.listing.specs.Inner.Counting.{Begins}
use Rattle.listing.proofs.records.fill.Given as goal

abbrev pub invariant-loop-k : goal.invariant-loop-k
invariant-loop-k g l = (l.k ≤ l.n) × Begins g.f l.k l.table
