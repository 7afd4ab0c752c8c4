-- `count_slot` meets its contract: where the field names a node, that node's counter goes up by one.
use mathlib.Core.Path.{◌≡◌, sym, ◌∙◌}
use mathlib.Core.Bool.{true}
use Prim.Native.Nat.{◌≤◌, ◌<◌}
use native.Mathlib.Omega.{arith}
use lib.ListN.{length, get_or}
use Rattle.image.specs.Layout.{names_node}
use Rattle.image.proofs.Counting.{counted, slot_names_none}
use Rattle.image.proofs.names.count_slot.Lts as lts
use Rattle.image.proofs.names.count_slot.Reads as reads
use Rattle.image.proofs.names.count_slot.Tie as tie
use Rattle.image.proofs.names.count_slot.Goals as goal

abbrev Then-names_node : Type 0
Then-names_node = lts.Then1 tie.the-claims reads.Pre reads.Post

abbrev Start : Type 0
Start = lts.Start tie.the-claims reads.Pre reads.Post

abbrev start : Then-names_node → Start
start c = c.before.before.before

named : (c : Then-names_node) → names_node (start c).args.slot ≡ true
named c = sym c.names_node.ensures ∙ c.if-names_node.true

-- the counter is there, and has room for one more
room : (c : Then-names_node)
    → (let a = (start c).args in (a.value < length a.counts.now) × (get_or a.counts.now a.value 0 ≤ 4096))
room c = (start c).requires (named c)

pub returns-then-names_node : goal.returns-then-names_node
returns-then-names_node c k =
    let args = (start c.before).args in
    counted args.counts.now args.slot args.value k (named c.before) (room c.before).0

pub returns-else-names_node : goal.returns-else-names_node
returns-else-names_node c k =
    let args = c.args in
    omega (arith, slot_names_none args.slot args.value k (sym c.names_node.ensures ∙ c.if-names_node.false))
