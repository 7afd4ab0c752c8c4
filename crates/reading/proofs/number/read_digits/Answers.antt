-- The loop's invariant: the digits read so far have made the value, and the rest goes on with it.
use Rattle.std.proofs.Common.{rules}
use Rattle.reading.proofs.Loops.{digits_no_digit, digits_over_most, digits_one_more, digits_end}
use Rattle.reading.proofs.number.read_digits.Goals as goal

pub returns-then-not-is_digit : goal.returns-then-not-is_digit
returns-then-not-is_digit c = search (digits_no_digit, rules)

pub returns-then-value-most : goal.returns-then-value-most
returns-then-value-most c = search (digits_over_most, rules)

pub loop-count-preserved : goal.loop-count-preserved
loop-count-preserved c = search (digits_one_more, rules)

pub returns : goal.returns
returns c = search (digits_end, rules)
