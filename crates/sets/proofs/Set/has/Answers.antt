-- `Set::has` meets its contract: a shift and a mask below 64, and no member from 64 on.
use mathlib.Core.Path.{sym}
use native.Mathlib.Omega.{arith}
use Rattle.sets.proofs.Laws.{bit_past, bit_asked}
use Rattle.sets.proofs.Set.has.Goals as goal

pub returns-then-s-ge64 : goal.returns-then-s-ge64
returns-then-s-ge64 c = sym (bit_past 64 _ _ (omega arith) c.if-s-ge64.true)

pub returns-else-s-ge64 : goal.returns-else-s-ge64
returns-else-s-ge64 c = bit_asked _ _
