-- `put_variable` meets its contract: five texts, one behind the other, of at most 1, 2, 1, 11 and 1 bytes.
use mathlib.Core.Path.{ap}
use mir.Syntax.{w32}
use mir.Facts.{to_z-of_z}
use Rattle.text.specs.Decimal.{signed_decimal}
use Rattle.text.proofs.Putting.{then, same}
use Rattle.hall.specs.Text.{variable_line}
use Rattle.hall.proofs.tell.put_variable.Goals as goal

pub returns : goal.returns
unfolding variable_line
returns c =
    let number = same (ap signed_decimal (to_z-of_z {w = w32} c.ranges.z)) c.put_signed-last.ensures in
    then c.put-name.ensures (then c.put_decimal-gap.ensures (then c.put-number.ensures (then number c.put.ensures)))
