-- `Set::take_away` meets its contract, by the law of a complement at 64 bits.
use native.Mathlib.Omega.{arith}
use Rattle.sets.proofs.Laws.{bit_take_away}
use Rattle.sets.proofs.Set.take_away.Goals as goal

pub returns : goal.returns
returns c s = bit_take_away 64 _ _ s (omega arith) (omega arith)
