-- `count_node` meets its contract: its three fields are counted one after the other, and each adds at most one name.
use Prim.Native.Nat.{◌/◌, ◌%◌}
use native.Mathlib.Omega.{arith}
use Rattle.image.specs.Rows.{node_names}
use Rattle.image.proofs.Counting.{slot_names_le}
use Rattle.image.proofs.names.count_node.Goals as goal

pub count_slot-requires-2 : goal.count_slot-requires-2
count_slot-requires-2 c names =
    let digits = c.layout-digits in
    let b = c.args.node.b in (
      omega (arith, c.count_slot.auto.counts, c.requires.0.b_lower (rw digits.ensures at names)),
      omega (arith, c.requires.1 b, c.count_slot.ensures b, slot_names_le (digits.result / 64 % 8) c.args.node.a b),
    )

pub count_slot-requires-3 : goal.count_slot-requires-3
count_slot-requires-3 c names =
    let digits = c.layout-digits in
    let last = c.args.node.c in
    let a_one = slot_names_le (digits.result / 64 % 8) c.args.node.a last in
    let b_one = slot_names_le (digits.result / 8 % 8) c.args.node.b last in (
      omega (arith, c.count_slot.auto.counts, c.count_slot-2.auto.counts, c.requires.0.c_lower (rw digits.ensures at names)),
      omega (arith, c.requires.1 last, c.count_slot.ensures last, c.count_slot-2.ensures last),
    )

pub returns : goal.returns
unfolding node_names
returns c k =
    rw (← c.layout-digits.ensures)
    (omega (arith, c.count_slot.ensures k, c.count_slot-2.ensures k, c.count_slot-3.ensures k))
