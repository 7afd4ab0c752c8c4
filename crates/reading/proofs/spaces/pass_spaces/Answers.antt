-- As many bytes are passed as are spaces.
use Rattle.std.proofs.Common.{arith, rules}
use Rattle.reading.proofs.Returns.{pass}
use Rattle.reading.proofs.Passing.{spaces_inside}
use Rattle.reading.proofs.spaces.pass_spaces.Goals as goal

pub overflow_add-at : goal.overflow_add-at
overflow_add-at c = omega (arith, spaces_inside c.args.text.now c.args.c.at c.spaces.result c.requires.inside c.spaces.ensures)

pub returns : goal.returns
returns c = search (pass, rules)
