-- `write` and `write_slot` meet their contracts together. The measure of node n is 2n + 2, and of a field that names node m it is 2m + 3: a node's fields
-- name lower nodes, so each call's is less. What is written follows from the laws of Nodes and Branches.
use mathlib.Core.Bool.{cond}
use Prim.Native.Nat.{◌+◌, ◌*◌}
use Rattle.image.specs.Layout.{names_node}
use Rattle.configure.proofs.write.+write_write_slot.Given as goal

abbrev pub decreases-write : goal.decreases-write
decreases-write l = 2 * l.n + 2

abbrev pub decreases-write_slot : goal.decreases-write_slot
decreases-write_slot l = cond (names_node l.slot) (2 * l.value + 3) 0
