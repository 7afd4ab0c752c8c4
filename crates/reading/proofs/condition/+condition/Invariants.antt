-- A condition's operands are read behind its first token, so that fewer bytes are left for each; what is written follows from the laws of ConditionParts and ConditionPairs.
use Prim.Native.Nat.{◌-◌}
use lib.ListN.{length}
use Rattle.reading.proofs.condition.+condition.Given as goal

abbrev pub decreases-condition : goal.decreases-condition
decreases-condition l = length l.text.now - l.c.at
