-- `put_variables` meets its contract: before each turn the lines of the first v variables are written, and none is longer than 16 bytes.
use mathlib.Core.Path.{◌≡◌, ap}
use Prim.Native.Nat.{ℕ, suc, ◌+◌}
use native.Mathlib.Omega.{arith}
use borrow.Author.Rules.{rules}
use lib.IntN.{ℤ, pos}
use lib.ListN.{get_or}
use mir.Syntax.{w32}
use mir.Val.{SFits}
use mir.Facts.{to_z-of_z}
use Rattle.text.proofs.Putting.{then, same}
use Rattle.hall.specs.Text.{variable_line, variable_lines}
use Rattle.hall.specs.Theorem.Fits.{variable_length}
use Rattle.hall.proofs.tell.put_variables.Goals as goal

pub loop-v-preserved : goal.loop-v-preserved
unfolding variable_lines
loop-v-preserved c =
    let v : ℕ = c.loop-v.v in
    let z : ℤ = get_or c.args.numbers.now v (pos 0) in
    let fits : SFits w32 z = record { sfits = omega arith } in
    let next : v + 1 ≡ suc v = omega arith in
    let this = same (ap (variable_line v) (to_z-of_z fits)) c.put_variable-end.ensures in
    (omega (arith, this.next_is, variable_length v z (omega arith) fits), rw next (then c.loop-v.invariant.1 this))

pub loop-v-init : goal.loop-v-init
unfolding variable_lines
loop-v-init c = search rules
