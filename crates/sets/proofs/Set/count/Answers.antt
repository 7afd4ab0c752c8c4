-- `Set::count` meets its contract: the ones of a 64-bit number are its members.
use native.Mathlib.Omega.{arith}
use Rattle.sets.proofs.Counts.{ones_members}
use Rattle.sets.proofs.Set.count.Goals as goal

pub returns : goal.returns
returns c = ones_members 64 _ (omega arith)
