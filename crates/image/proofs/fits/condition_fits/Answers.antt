-- `condition_fits` meets its contract: it joins what its callees ensure.
use Rattle.image.specs.Rows.{condition_fits}
use Rattle.image.proofs.fits.condition_fits.Goals as goal

pub returns : goal.returns
unfolding condition_fits
returns c = cc
