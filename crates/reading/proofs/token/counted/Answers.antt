-- Within the limits, over them and whole, over them and going on: one law each.
use Rattle.std.proofs.Common.{rules}
use Rattle.reading.proofs.Returns.{count_on, count_17, count_18}
use Rattle.reading.proofs.token.counted.Goals as goal

pub returns-then-nodes-records : goal.returns-then-nodes-records
returns-then-nodes-records c = search (count_on, rules)

pub returns-then-tight-is_run : goal.returns-then-tight-is_run
returns-then-tight-is_run c =
    count_17 _ _ _ _ _ _ _ c.nodes.ensures c.records.ensures _ _ c.if-nodes-records.false c.byte_at.ensures c.is_run.ensures c.if-tight-is_run.true

pub returns : goal.returns
returns c =
    count_18 _ _ _ _ _ _ _ c.nodes.ensures c.records.ensures _ _ c.if-nodes-records.false c.byte_at.ensures c.is_run.ensures c.if-tight-is_run.false
