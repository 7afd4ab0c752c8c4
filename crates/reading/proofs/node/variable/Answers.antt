-- The token that comes is a variable, or it is refused at its first byte.
use Rattle.reading.proofs.Ways.{refused_is}
use Rattle.std.proofs.Common.{arith}
use Rattle.written.specs.Machine.{variables}
use Rattle.reading.proofs.Passing.{token_met}
use Rattle.reading.proofs.Between.{no_variable, a_variable}
use Rattle.reading.proofs.node.variable.Goals as goal

pub returns-in_err-d : goal.returns-in_err-d
returns-in_err-d c = rw (refused_is c.from_residual.result c.from_residual.ensures.1) (λ F h. (token_met _ c.requires c.in_err-d.ensures).no_part F variables h)

pub returns-then-byte_at-ne118 : goal.returns-then-byte_at-ne118
returns-then-byte_at-ne118 c = no_variable _ _ _ (token_met _ c.requires c.in_ok-d.ensures) _ c.byte_at.ensures c.if-byte_at-ne118.true

pub read_number-requires : goal.read_number-requires
read_number-requires c =
    let m = (token_met _ c.requires c.in_ok-d.ensures).is_met in
    (m.good, omega (arith, m.faces.before_end), omega arith)

pub returns : goal.returns
returns c = a_variable _ _ _ (token_met _ c.requires c.in_ok-d.ensures) _ _ c.byte_at.ensures c.if-byte_at-ne118.false c.read_number.ensures
