-- `list_node` and `put_sign` meet their contracts together. The measure of node n is 2n + 2, and that of a sign which stands for node x is 2x + 3: a node's
-- fields name lower nodes, so each call's is less.
use Prim.Native.Nat.{◌+◌, ◌*◌}
use lib.ListN.{take}
use Rattle.text.specs.Inner.Puts.{Puts}
use Rattle.listing.specs.Inner.Spelling.{spell}
use Rattle.listing.specs.Inner.Texts.{parts_at}
use Rattle.listing.specs.Inner.Listing.{reach}
use Rattle.listing.proofs.write.+list_node_put_sign.Given as goal

-- before each turn the signs so far are put
abbrev pub invariant-list_node-loop-sign : goal.invariant-list_node-loop-sign
invariant-list_node-loop-sign l =
    Puts (spell (parts_at l.routine.image.now l.level l.node) (take l.sign-index l.sign-items)) l.at l.initial.out l.out l.end

abbrev pub decreases-list_node : goal.decreases-list_node
decreases-list_node l = 2 * l.n + 2

abbrev pub decreases-put_sign : goal.decreases-put_sign
decreases-put_sign l = reach l.node l.sign
