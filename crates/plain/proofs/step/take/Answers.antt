-- `take` meets its contract: the fault's code goes into the variable, and the setting is done so far.
use mathlib.Core.Path.{refl}
use borrow.Author.Rules.{rules}
use Rattle.plain.proofs.Evaluation.{through}
use Rattle.plain.proofs.Statements.{takes}
use Rattle.plain.proofs.step.take.Goals as goal

pub returns : goal.returns
returns c =
    let a = c.args in
    let pre = c.requires in
    takes a.node.variable a.p a.numbers.now pre.proper pre.sixteen (through (search rules) refl)
