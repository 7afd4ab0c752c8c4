-- `Set::join` meets its contract, by the law of an or.
use Rattle.sets.proofs.Laws.{bit_of_or}
use Rattle.sets.proofs.Set.join.Goals as goal

pub returns : goal.returns
returns c s = bit_of_or _ _ s
