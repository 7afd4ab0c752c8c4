-- `name` meets its contract, by its test of the field.
use Rattle.configure.specs.Inner.Writing.{named}
use Rattle.configure.proofs.write.name.Goals as goal

pub returns-then-names_node : goal.returns-then-names_node
unfolding named
returns-then-names_node c = rw (← c.names_node.ensures, c.if-names_node.true)

pub returns-else-names_node : goal.returns-else-names_node
unfolding named
returns-else-names_node c = rw (← c.names_node.ensures, c.if-names_node.false)
