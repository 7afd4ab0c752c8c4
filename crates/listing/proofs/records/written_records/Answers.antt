-- `written_records` meets its contract: the records of the root are those of the routine.
use mathlib.Core.Path.{ap, ◌∙◌}
use Prim.Native.Nat.{◌-◌}
use native.Mathlib.Omega.{arith}
use Rattle.listing.specs.Inner.Counting.{capped, node_records}
use Rattle.listing.proofs.Theorem.Root.{root_records}
use Rattle.listing.proofs.records.written_records.Goals as goal

pub returns : goal.returns
returns c =
    let l = c.args.routine.image.now in
    let nodes_are = c.args.routine.whole.nodes_are in
    c.fill-2.ensures.filled.right _ (omega (arith, nodes_are, c.requires.some_node))
    ∙ ap (λ n. capped (node_records l (n - 1))) nodes_are
    ∙ ap capped (root_records l c.requires)
