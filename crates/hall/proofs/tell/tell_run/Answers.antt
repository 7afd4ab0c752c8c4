-- `tell_run` meets its contract: the lines of how the run ended and of what it left, or of its refusal.
use native.Mathlib.Omega.{arith}
use Rattle.lines.specs.Text.{zeros}
use Rattle.text.proofs.Putting.{then, same}
use Rattle.hall.proofs.Telling.{tell_refused, tell_ended, in_range, line_short}
use Rattle.hall.proofs.tell.tell_run.Goals as goal

pub returns-in-Err : goal.returns-in-Err
unfolding zeros
returns-in-Err c =
    same (tell_refused c.args.image.now _ _ c.in-Err.ensures) c.put_refusal.ensures

pub returns-in-Ok : goal.returns-in-Ok
unfolding zeros
returns-in-Ok c =
    let ran = c.in-Ok.ensures in
    same (tell_ended c.args.image.now _ _ ran) (then c.put_line-at.ensures c.put_variables.ensures)

pub put_line-at-requires : goal.put_line-at-requires
unfolding zeros
put_line-at-requires c =
    let ran = c.in-Ok.ensures in
    (in_range c.args.image.now _ _ ran, omega (arith, c.requires))

pub put_variables-requires : goal.put_variables-requires
unfolding zeros
put_variables-requires c =
    let ran = c.in-Ok.ensures in
    let line = c.put_line-at in
    let short = line_short c.args.image.now _ _ ran in
    (c.one_hall.auto.numbers, omega (arith, c.requires, short, line.ensures.next_is, line.auto.out))
