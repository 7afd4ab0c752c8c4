-- The token that comes is a number up to 6.
use Rattle.reading.proofs.Ways.{refused_is}
use Rattle.std.proofs.Common.{arith}
use Rattle.written.specs.Machine.{counts}
use Rattle.reading.proofs.Passing.{token_met}
use Rattle.reading.proofs.Counting.{a_count}
use Rattle.reading.proofs.whole.count.Goals as goal

pub returns-in_err-d : goal.returns-in_err-d
returns-in_err-d c = rw (refused_is c.from_residual.result c.from_residual.ensures.1) (λ h. (token_met _ c.requires c.in_err-d.ensures).no_part 0 counts h)

pub read_number-requires : goal.read_number-requires
read_number-requires c =
    let g = (token_met _ c.requires c.in_ok-d.ensures).is_met.good in
    (g, g.inside, omega arith)

pub returns : goal.returns
returns c = a_count _ _ _ (token_met _ c.requires c.in_ok-d.ensures) _ c.read_number.ensures
