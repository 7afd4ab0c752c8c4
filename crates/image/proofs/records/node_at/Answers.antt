-- `node_at` meets its contract: the fields of the number that the eight bytes of node n make, from where the nodes begin.
use mathlib.Core.Path.{ap, ◌∙◌}
use Rattle.image.specs.Records.{node_fields, nodes_from, node}
use Rattle.image.proofs.records.node_at.Goals as goal

pub returns : goal.returns
unfolding node nodes_from
returns c = c.node_fields.ensures ∙ ap node_fields (c.number_at.ensures ∙ rw c.requires.0)
