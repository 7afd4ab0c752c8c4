-- `put_refusal` meets its contract: two fields, of the refusal's number and place.
use mathlib.Core.Path.{ap₂}
use mathlib.Core.List.{◌++◌}
use Rattle.lines.specs.Words.{refused_word, at_word, field}
use Rattle.lines.specs.Text.{refusal_line}
use Rattle.text.proofs.Putting.{then, same}
use Rattle.lines.proofs.line.put_refusal.Goals as goal

pub returns : goal.returns
unfolding refusal_line
returns c =
    same (ap₂ (λ n p. field refused_word n 32 ++ field at_word p 10) c.number.ensures c.place.ensures)
    (then c.put_field-first.ensures c.put_field.ensures)
