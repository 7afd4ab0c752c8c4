-- `layout` meets its contract: the table of src/kinds.rt is that of specs/Layout.antt.
use Rattle.std.proofs.Common.{rules}
use Rattle.image.specs.Layout.{kinds, layout}
use Rattle.image.proofs.kinds.layout.Goals as goal

pub returns : goal.returns
unfolding layout kinds
returns c = search rules
