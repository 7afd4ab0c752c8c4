-- The proof of the cycle of calls {put_decimal}: it ends, for a tenth of n is below n where n is ten or above, and its digits are those of a tenth of n and the last.
use Rattle.text.proofs.decimal.+put_decimal.Given as goal

abbrev pub decreases-put_decimal : goal.decreases-put_decimal
decreases-put_decimal l = l.n
