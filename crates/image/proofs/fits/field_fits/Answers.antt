-- `field_fits` meets its contract, by its test of the digit.
use borrow.Author.Tests.{eq-eqb, ne_eqb}
use Rattle.image.specs.Layout.{field_fits}
use Rattle.image.proofs.fits.field_fits.Goals as goal

pub returns-then-digit-eq0 : goal.returns-then-digit-eq0
unfolding field_fits
returns-then-digit-eq0 c = rw (eq-eqb _ _ c.if-digit-eq0.true)

pub returns-else-digit-eq0 : goal.returns-else-digit-eq0
unfolding field_fits
returns-else-digit-eq0 c = rw (ne_eqb _ _ c.if-digit-eq0.false)
