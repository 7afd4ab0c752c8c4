-- `class` meets its contract: it joins what its callees ensure.
use Rattle.image.specs.Rows.{class}
use Rattle.image.proofs.fits.class.Goals as goal

pub returns : goal.returns
unfolding class
returns c = cc
