-- At the end, or at more text: one law each.
use Rattle.reading.proofs.Ending.{end_here, end_more}
use Rattle.reading.proofs.whole.end.Goals as goal

pub returns-then-d-text : goal.returns-then-d-text
returns-then-d-text c = end_here _ _ _ c.requires c.pass_spaces-d.ensures c.if-d-text.true _

pub returns-else-d-text : goal.returns-else-d-text
returns-else-d-text c = end_more _ _ _ c.requires c.pass_spaces-d.ensures c.if-d-text.false
