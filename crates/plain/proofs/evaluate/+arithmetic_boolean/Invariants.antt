-- `arithmetic` and `boolean` meet their contracts: the measure of both is the node's number, and each arm is the equation of its kind.
use Rattle.plain.proofs.evaluate.+arithmetic_boolean.Given as goal

abbrev pub decreases-arithmetic : goal.decreases-arithmetic
decreases-arithmetic l = l.n

abbrev pub decreases-boolean : goal.decreases-boolean
decreases-boolean l = l.n
