-- No digit, a first digit out of range, a letter or digit behind it, or a number: one law each.
use Rattle.std.proofs.Common.{arith, rules}
use Rattle.reading.proofs.Ways.{refused_is}
use Rattle.reading.specs.Inner.Token.{opens_of}
use Rattle.reading.proofs.NumberReturns.{no_digit, out_of_range, end_inside, goes_on_behind, number_refused, is_number, digit_inside}
use Rattle.reading.proofs.number.read_number.Goals as goal

pub returns-then-not-is_digit : goal.returns-then-not-is_digit
returns-then-not-is_digit c = search (no_digit, rules)

pub returns-then-n-low : goal.returns-then-n-low
returns-then-n-low c =
    out_of_range _ _ _ _ _ _ _ _ _ c.least-low.ensures c.byte_at-b.ensures c.from-n.ensures c.if-n-low.true

pub returns-then-is_run : goal.returns-then-is_run
returns-then-is_run c =
    goes_on_behind _ _ _ _ _ _ _ _ _ _ _ c.least-low.ensures c.byte_at-b.ensures c.is_digit.ensures (search rules) c.from-n.ensures c.if-n-low.false c.read_digits-d.ensures
    _ _ c.byte_at.ensures c.is_run.ensures c.if-is_run.true

pub returns : goal.returns
returns c =
    is_number _ _ _ _ _ _ _ _ _ _ _ c.least-low.ensures c.byte_at-b.ensures c.is_digit.ensures (search rules) c.from-n.ensures c.if-n-low.false c.read_digits-d.ensures
    _ _ c.byte_at.ensures c.is_run.ensures _ c.if-is_run.false c.in_ok-counted.ensures
    (digit_inside c.args.text.now c.args.at c.byte_at-b.result c.is_digit.result c.requires.1 c.byte_at-b.ensures c.is_digit.ensures (search rules))

pub overflow_add-end-2 : goal.overflow_add-end-2
overflow_add-end-2 c =
    let inside =
    end_inside _ c.args.c c.args.at c.args.positive c.args.hi (opens_of c.args.opens) _ _ _ _ _ c.least-low.ensures c.byte_at-b.ensures c.is_digit.ensures (search rules) c.from-n.ensures c.if-n-low.false c.read_digits-d.ensures
    (digit_inside c.args.text.now c.args.at c.byte_at-b.result c.is_digit.result c.requires.1 c.byte_at-b.ensures c.is_digit.ensures (search rules)) in
    omega (arith, inside)

pub returns-in_err-counted : goal.returns-in_err-counted
returns-in_err-counted c =
    rw (refused_is c.from_residual.result c.from_residual.ensures.1) (number_refused _ _ _ _ _ _ _ _ _ _ _ c.least-low.ensures c.byte_at-b.ensures c.is_digit.ensures (search rules) c.from-n.ensures c.if-n-low.false c.read_digits-d.ensures
    _ _ c.byte_at.ensures c.is_run.ensures _ c.if-is_run.false c.in_err-counted.ensures)
