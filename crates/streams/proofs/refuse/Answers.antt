-- `refuse`: what is said is the line.
use Rattle.text.proofs.Putting.{front}
use Rattle.streams.proofs.refuse.Goals as goal

pub say-requires : goal.say-requires
say-requires g c = front _ _ c.put_refusal-end.ensures
