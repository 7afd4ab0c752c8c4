-- `Set::is_empty` meets its contract: of the 64-bit numbers only 0 has no member.
use native.Mathlib.Omega.{arith}
use Rattle.sets.proofs.Counts.{none_counted}
use Rattle.sets.proofs.Set.is_empty.Goals as goal

pub returns : goal.returns
returns c = none_counted 64 _ (omega arith)
