-- `node_records` meets its contract: those of its fields together.
use mathlib.Core.Path.{◌∙◌}
use native.Mathlib.Omega.{arith}
use Rattle.listing.proofs.Counts.{field_a, field_b, field_c, whole_count}
use Rattle.listing.proofs.records.node_records.Goals as goal

pub field_records-in_a-requires : goal.field_records-in_a-requires
field_records-in_a-requires c = field_a c.requires c.node-node.ensures c.layout-digits.ensures

pub field_records-in_b-requires : goal.field_records-in_b-requires
field_records-in_b-requires c = field_b c.requires c.node-node.ensures c.layout-digits.ensures

pub field_records-in_c-requires : goal.field_records-in_c-requires
field_records-in_c-requires c = field_c c.requires c.node-node.ensures c.layout-digits.ensures

pub overflow_add-in_a : goal.overflow_add-in_a
overflow_add-in_a c =
    let all = whole_count c.requires c.node-node.ensures c.layout-digits.ensures c.field_records-in_a.ensures c.field_records-in_b.ensures c.field_records-in_c.ensures in
    omega (arith, all.0, all.1, all.2)

pub overflow_add-in_a-2 : goal.overflow_add-in_a-2
overflow_add-in_a-2 c =
    let all = whole_count c.requires c.node-node.ensures c.layout-digits.ensures c.field_records-in_a.ensures c.field_records-in_b.ensures c.field_records-in_c.ensures in
    omega (arith, all.0, all.1, all.2)

pub returns : goal.returns
returns c =
    let all = whole_count c.requires c.node-node.ensures c.layout-digits.ensures c.field_records-in_a.ensures c.field_records-in_b.ensures c.field_records-in_c.ensures in
    c.min.ensures ∙ all.3
