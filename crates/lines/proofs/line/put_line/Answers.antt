-- `put_line` meets its contract: setting, word, code and steps, one behind the other.
use mathlib.Core.Path.{ap}
use mir.Syntax.{w32}
use mir.Val.{SFits}
use mir.Facts.{to_z-of_z}
use borrow.Author.Rules.{rules}
use Rattle.text.specs.Decimal.{signed_decimal}
use Rattle.lines.specs.Text.{line}
use Rattle.text.proofs.Putting.{then, same}
use Rattle.lines.proofs.line.put_line.Goals as goal

pub returns : goal.returns
unfolding line
returns c =
    let fits : SFits w32 c.args.p.code = search rules in
    let code = same (ap signed_decimal (to_z-of_z fits)) c.put_signed-after_code.ensures in
    then c.put_decimal-after_s.ensures (then c.put_word-after_word.ensures (then code c.put_field.ensures))
