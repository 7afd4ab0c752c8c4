-- `list_condition` and `put_condition_sign` meet their contracts together. The measure of condition k is 2k + 2, and that of a sign which stands for condition
-- x is 2x + 3: a condition's names are lower, so each call's is less.
use Prim.Native.Nat.{◌+◌, ◌*◌}
use lib.ListN.{take}
use Rattle.image.specs.Tree.{condition}
use Rattle.text.specs.Inner.Puts.{Puts}
use Rattle.listing.specs.Inner.Spelling.{spell}
use Rattle.listing.specs.Inner.Texts.{condition_parts}
use Rattle.listing.specs.Inner.Listing.{condition_reach}
use Rattle.listing.proofs.write.+list_condition_put_condition_sign.Given as goal

-- before each turn the signs so far are put
abbrev pub invariant-list_condition-loop-sign : goal.invariant-list_condition-loop-sign
invariant-list_condition-loop-sign l =
    Puts (spell (condition_parts (condition l.routine.image.now) l.r) (take l.sign-index l.sign-items)) l.at l.initial.out l.out l.end

abbrev pub decreases-list_condition : goal.decreases-list_condition
decreases-list_condition l = 2 * l.k + 2

abbrev pub decreases-put_condition_sign : goal.decreases-put_condition_sign
decreases-put_condition_sign l = condition_reach l.r l.sign
