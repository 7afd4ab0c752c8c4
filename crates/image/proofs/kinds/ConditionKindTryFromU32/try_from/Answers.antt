-- A number that is none of the six kinds of conditions has no layout.
use Rattle.std.proofs.Common.{arith, refl}
use lib.ListN.{get_or-eq_default}
use Rattle.image.specs.Layout.{condition_kinds, condition_layout}
use Rattle.image.proofs.kinds.ConditionKindTryFromU32.try_from.Goals as goal

pub returns-in_default : goal.returns-in_default
unfolding condition_layout condition_kinds
returns-in_default c = (get_or-eq_default condition_kinds 0 (omega arith), refl)
