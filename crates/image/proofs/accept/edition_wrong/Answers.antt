-- `edition_wrong` meets its contract: the code is the definition.
use mathlib.Core.Path.{refl}
use Rattle.image.specs.Rows.{edition_wrong}
use Rattle.image.proofs.accept.edition_wrong.Goals as goal

pub returns : goal.returns
unfolding edition_wrong
returns c = refl
