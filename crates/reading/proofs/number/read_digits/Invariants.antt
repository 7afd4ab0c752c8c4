-- The loop's invariant: the digits read so far have made the value, and the rest goes on with it.
use Rattle.reading.proofs.Loops.{DigitsSoFar}
use Rattle.reading.proofs.number.read_digits.Given as goal

abbrev pub invariant-loop-count : goal.invariant-loop-count
invariant-loop-count l = DigitsSoFar l.text l.n l.most l.count l.value
