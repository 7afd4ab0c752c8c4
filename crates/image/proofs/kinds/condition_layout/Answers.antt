-- `condition_layout` meets its contract: the table of src/kinds.rt is that of specs/Layout.antt.
use Rattle.std.proofs.Common.{rules}
use Rattle.image.specs.Layout.{condition_kinds, condition_layout}
use Rattle.image.proofs.kinds.condition_layout.Goals as goal

pub returns : goal.returns
unfolding condition_layout condition_kinds
returns c = search rules
