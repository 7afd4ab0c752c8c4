-- `fault` meets its contract: the value's number is the fault's code.
use Rattle.plain.proofs.Beginning.{proper_fault}
use Rattle.plain.proofs.Evaluation.{through}
use Rattle.plain.proofs.Statements.{throws}
use Rattle.plain.proofs.step.fault.Goals as goal

pub returns : goal.returns
returns c =
    let a = c.args in
    record {
      reaches = throws a.p a.numbers.now (through c.arithmetic-code.type_inv c.arithmetic-code.ensures);
      proper = proper_fault _;
      sixteen = c.requires.sixteen;
    }
