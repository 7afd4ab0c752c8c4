-- `assign` meets its contract: the value's number goes into the variable.
use lib.ListN.{length-set}
use Rattle.plain.proofs.Evaluation.{through}
use Rattle.plain.proofs.Statements.{stores}
use Rattle.plain.proofs.step.assign.Goals as goal

pub returns : goal.returns
returns c =
    let a = c.args in
    record {
      reaches = stores a.node.variable a.p a.numbers.now (through c.arithmetic.type_inv c.arithmetic.ensures);
      proper = c.requires.variable_bound.1;
      sixteen = simp length-set c.requires.evaluating.sixteen;
    }
