-- `counts_wrong` meets its contract: the code is the definition.
use mathlib.Core.Path.{refl}
use Rattle.image.specs.Rows.{counts_wrong}
use Rattle.image.proofs.accept.counts_wrong.Goals as goal

pub returns : goal.returns
unfolding counts_wrong
returns c = refl
