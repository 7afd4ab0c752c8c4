-- `report` meets its contract: what was written to the text's own space is handed over.
use Rattle.text.proofs.Putting.{front}
use Rattle.lines.proofs.report.Goals as goal

pub returns : goal.returns
returns c = rw (front _ _ c.tell-n.ensures) at c.hand_over.ensures
