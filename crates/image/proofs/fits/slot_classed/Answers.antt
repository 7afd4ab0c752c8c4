-- `slot_classed` meets its contract, by its test of the field.
use Rattle.image.specs.Rows.{slot_classed}
use Rattle.image.proofs.fits.slot_classed.Goals as goal

pub returns-then-names_node : goal.returns-then-names_node
unfolding slot_classed
returns-then-names_node c = rw (← c.names_node.ensures, c.if-names_node.true, c.class.ensures)

pub returns-else-names_node : goal.returns-else-names_node
unfolding slot_classed
returns-else-names_node c = rw (← c.names_node.ensures, c.if-names_node.false)
