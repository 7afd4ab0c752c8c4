-- `put_field` meets its contract: the name, the digits, and one byte more.
use Rattle.lines.specs.Words.{field}
use Rattle.text.proofs.Putting.{then}
use Rattle.lines.proofs.line.put_field.Goals as goal

pub returns : goal.returns
unfolding field
returns c = then c.put-first.ensures (then c.put_decimal-last.ensures c.put.ensures)
