-- `names_node` meets its contract: the code is the definition.
use mathlib.Core.Path.{refl}
use Rattle.image.specs.Layout.{names_node}
use Rattle.image.proofs.kinds.names_node.Goals as goal

pub returns : goal.returns
unfolding names_node
returns c = refl
