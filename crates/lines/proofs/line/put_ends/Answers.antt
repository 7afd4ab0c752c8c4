-- `put_ends` meets its contract: three fields, of the visits and of the members of the two sets.
use mathlib.Core.Path.{ap₂}
use mathlib.Core.List.{◌++◌}
use Rattle.lines.specs.Words.{visits_word, faults_word, out_word, field}
use Rattle.lines.specs.Text.{last_line}
use Rattle.text.proofs.Putting.{then, same}
use Rattle.lines.proofs.line.put_ends.Goals as goal

pub returns : goal.returns
unfolding last_line
returns c =
    let ends = c.args.ends in
    same
    (ap₂ (λ a z. field visits_word ends.visits 32 ++ (field faults_word a 32 ++ field out_word z 10)) c.count-faults.ensures c.count-outs.ensures)
    (then c.put_field-first.ensures (then c.put_field-second.ensures c.put_field.ensures))
