-- `Routine::of` meets its contract: the counts of an accepted image's shape are its header's, and its length is theirs.
use Rattle.std.proofs.Common.{ap, arith}
use Rattle.image.specs.declared.accept.Shape.{Shape}
use Rattle.image.specs.Check.{shape_of}
use Rattle.image.proofs.routine.Routine.of.Goals as goal

pub invariant_of-result : goal.invariant_of-result
unfolding shape_of
invariant_of-result c =
    let conditions = ap (λ (h : Shape). h.conditions) c.requires.1 in
    let nodes = ap (λ (h : Shape). h.nodes) c.requires.1 in
    record {
      whole = record { conditions_are = conditions; nodes_are = nodes; length_is = omega (arith, conditions, nodes, c.requires.0.length_is) };
    }
