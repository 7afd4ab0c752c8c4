-- Each of the five slots has its name.
use Rattle.reading.proofs.Finishing.{name_node, name_condition, name_none}
use Rattle.reading.proofs.finish.name.Goals as goal

pub returns-then-names_node : goal.returns-then-names_node
returns-then-names_node c = name_node c.args.c _ _ _ c.names_node.ensures c.if-names_node.true c.before-then-names_node.ensures

pub returns-then-slot-eq-CONDITION : goal.returns-then-slot-eq-CONDITION
returns-then-slot-eq-CONDITION c = name_condition c.args.c _ _ c.if-slot-eq-CONDITION.true c.before-then-slot-eq-CONDITION.ensures

pub returns-else-slot-eq-CONDITION : goal.returns-else-slot-eq-CONDITION
returns-else-slot-eq-CONDITION c = name_none c.args.c _ _ c.names_node.ensures c.if-names_node.false c.if-slot-eq-CONDITION.false
