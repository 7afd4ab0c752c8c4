-- `slot_fits` meets its contract: whether the field names a node gives its bound.
use mathlib.Core.Path.{◌∙◌}
use Rattle.image.specs.Rows.{slot_fits}
use Rattle.image.proofs.fits.slot_fits.Goals as goal

pub returns-then-names_node : goal.returns-then-names_node
unfolding slot_fits
returns-then-names_node c = c.field_fits.ensures ∙ rw (← c.names_node.ensures, c.if-names_node.true)

pub returns-else-names_node : goal.returns-else-names_node
unfolding slot_fits
returns-else-names_node c = c.field_fits-else-names_node.ensures ∙ rw (← c.names_node.ensures, c.if-names_node.false)
