-- `Set::meet` meets its contract, by the law of a mask.
use Rattle.sets.proofs.Laws.{bit_of_and}
use Rattle.sets.proofs.Set.meet.Goals as goal

pub returns : goal.returns
returns c s = bit_of_and _ _ s
