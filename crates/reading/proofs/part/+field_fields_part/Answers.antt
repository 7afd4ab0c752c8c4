-- A part is read in the order in which it is written; bytes left fall with each part that begins, for its first token has been read.
use Rattle.reading.proofs.Ways.{refused_is}
use Rattle.std.proofs.Common.{ap, refl, ◌∙◌, arith}
use Rattle.image.specs.Layout.{layout}
use Rattle.written.specs.Machine.{done}
use Rattle.reading.proofs.Tokens.{nothing_read}
use Rattle.reading.proofs.Fielding.{no_field, condition_field, of_slot, condition_slot, no_slot, class_small}
use Rattle.reading.proofs.Filled.{wrong₁, next₁, wrong₂, next₂, wrong₃, next₃, wrong₄, next₄, wrong₅, next₅, wrong₆, next₆, wrong₇, finishing, filled}
use Rattle.reading.proofs.Beginning.{fields_ready, part_filled}
use Rattle.reading.proofs.part.+field_fields_part.Goals as goal

pub field-returns-then-slot-eq-CONDITION : goal.field-returns-then-slot-eq-CONDITION
field-returns-then-slot-eq-CONDITION t c =
    of_slot _ _ _ _ _ _ _ _ _ _ (condition_slot _ c.if-slot-eq-CONDITION.true) (condition_field _ _ _ _ _ _ _ c.condition.ensures)

pub field-part-requires : goal.field-part-requires
field-part-requires t c =
    let k = class_small _ _ c.names_node.ensures c.if-names_node.true in
    (omega arith, (c.requires, k.0, k.1))

pub field-returns : goal.field-returns
field-returns t c =
    of_slot _ _ _ _ _ _ _ _ _ _ (no_slot _ _ c.names_node.ensures c.if-names_node.false c.if-slot-eq-CONDITION.false) (no_field _ _ _ _ _ c.requires)

pub fields-returns-in_err-before_a : goal.fields-returns-in_err-before_a
fields-returns-in_err-before_a t c = rw (refused_is c.from_residual.result c.from_residual.ensures.1) (wrong₁ c.requires (c.layout-digits.ensures ∙ ap layout c.from.ensures) (c.in_err-before_a.ensures _ c.marks-m.ensures.0))

pub fields-returns-in_err-a : goal.fields-returns-in_err-a
fields-returns-in_err-a t c = rw (refused_is c.from_residual-in_err-a.result c.from_residual-in_err-a.ensures.1) (wrong₂ c.requires (c.layout-digits.ensures ∙ ap layout c.from.ensures) (c.in_ok-before_a.ensures _ c.marks-m.ensures.0) c.in_err-a.ensures)

pub fields-returns-in_err-v : goal.fields-returns-in_err-v
fields-returns-in_err-v t c = rw (refused_is c.from_residual-in_err-v.result c.from_residual-in_err-v.ensures.1) (wrong₃ c.requires (c.layout-digits.ensures ∙ ap layout c.from.ensures) (c.in_ok-before_a.ensures _ c.marks-m.ensures.0) c.in_ok-a.ensures (c.in_err-v.ensures _ c.marks-m.ensures.1))

pub fields-returns-in_err-b : goal.fields-returns-in_err-b
fields-returns-in_err-b t c = rw (refused_is c.from_residual-in_err-b.result c.from_residual-in_err-b.ensures.1) (wrong₄ c.requires (c.layout-digits.ensures ∙ ap layout c.from.ensures) (c.in_ok-before_a.ensures _ c.marks-m.ensures.0) c.in_ok-a.ensures (c.in_ok-v.ensures _ c.marks-m.ensures.1) c.in_err-b.ensures)

pub fields-returns-in_err-before_c : goal.fields-returns-in_err-before_c
fields-returns-in_err-before_c t c = rw (refused_is c.from_residual-in_err-before_c.result c.from_residual-in_err-before_c.ensures.1) (wrong₅ c.requires (c.layout-digits.ensures ∙ ap layout c.from.ensures) (c.in_ok-before_a.ensures _ c.marks-m.ensures.0) c.in_ok-a.ensures (c.in_ok-v.ensures _ c.marks-m.ensures.1) c.in_ok-b.ensures (c.in_err-before_c.ensures _ c.marks-m.ensures.2))

pub fields-returns-in_err-d : goal.fields-returns-in_err-d
fields-returns-in_err-d t c = rw (refused_is c.from_residual-in_err-d.result c.from_residual-in_err-d.ensures.1) (wrong₆ c.requires (c.layout-digits.ensures ∙ ap layout c.from.ensures) (c.in_ok-before_a.ensures _ c.marks-m.ensures.0) c.in_ok-a.ensures (c.in_ok-v.ensures _ c.marks-m.ensures.1) c.in_ok-b.ensures (c.in_ok-before_c.ensures _ c.marks-m.ensures.2) c.in_err-d.ensures)

pub fields-returns-in_err-end : goal.fields-returns-in_err-end
fields-returns-in_err-end t c = rw (refused_is c.from_residual-in_err-end.result c.from_residual-in_err-end.ensures.1) (wrong₇ c.requires (c.layout-digits.ensures ∙ ap layout c.from.ensures) (c.in_ok-before_a.ensures _ c.marks-m.ensures.0) c.in_ok-a.ensures (c.in_ok-v.ensures _ c.marks-m.ensures.1) c.in_ok-b.ensures (c.in_ok-before_c.ensures _ c.marks-m.ensures.2) c.in_ok-d.ensures (c.in_err-end.ensures _ c.marks-m.ensures.3))

pub fields-field-requires : goal.fields-field-requires
fields-field-requires t c = (omega (arith, (next₁ c.requires (c.layout-digits.ensures ∙ ap layout c.from.ensures) (c.in_ok-before_a.ensures _ c.marks-m.ensures.0)).forth), (next₁ c.requires (c.layout-digits.ensures ∙ ap layout c.from.ensures) (c.in_ok-before_a.ensures _ c.marks-m.ensures.0)).ready)

pub fields-behind_a-requires : goal.fields-behind_a-requires
fields-behind_a-requires t c = (next₂ c.requires (c.layout-digits.ensures ∙ ap layout c.from.ensures) (c.in_ok-before_a.ensures _ c.marks-m.ensures.0) c.in_ok-a.ensures).ready.good

pub fields-field-requires-2 : goal.fields-field-requires-2
fields-field-requires-2 t c = (omega (arith, (next₁ c.requires (c.layout-digits.ensures ∙ ap layout c.from.ensures) (c.in_ok-before_a.ensures _ c.marks-m.ensures.0)).forth, (next₂ c.requires (c.layout-digits.ensures ∙ ap layout c.from.ensures) (c.in_ok-before_a.ensures _ c.marks-m.ensures.0) c.in_ok-a.ensures).forth, (next₃ c.requires (c.layout-digits.ensures ∙ ap layout c.from.ensures) (c.in_ok-before_a.ensures _ c.marks-m.ensures.0) c.in_ok-a.ensures (c.in_ok-v.ensures _ c.marks-m.ensures.1)).forth), (next₃ c.requires (c.layout-digits.ensures ∙ ap layout c.from.ensures) (c.in_ok-before_a.ensures _ c.marks-m.ensures.0) c.in_ok-a.ensures (c.in_ok-v.ensures _ c.marks-m.ensures.1)).ready)

pub fields-mark-requires-2 : goal.fields-mark-requires-2
fields-mark-requires-2 t c = (next₄ c.requires (c.layout-digits.ensures ∙ ap layout c.from.ensures) (c.in_ok-before_a.ensures _ c.marks-m.ensures.0) c.in_ok-a.ensures (c.in_ok-v.ensures _ c.marks-m.ensures.1) c.in_ok-b.ensures).ready.good

pub fields-field-requires-3 : goal.fields-field-requires-3
fields-field-requires-3 t c = (omega (arith, (next₁ c.requires (c.layout-digits.ensures ∙ ap layout c.from.ensures) (c.in_ok-before_a.ensures _ c.marks-m.ensures.0)).forth, (next₂ c.requires (c.layout-digits.ensures ∙ ap layout c.from.ensures) (c.in_ok-before_a.ensures _ c.marks-m.ensures.0) c.in_ok-a.ensures).forth, (next₃ c.requires (c.layout-digits.ensures ∙ ap layout c.from.ensures) (c.in_ok-before_a.ensures _ c.marks-m.ensures.0) c.in_ok-a.ensures (c.in_ok-v.ensures _ c.marks-m.ensures.1)).forth, (next₄ c.requires (c.layout-digits.ensures ∙ ap layout c.from.ensures) (c.in_ok-before_a.ensures _ c.marks-m.ensures.0) c.in_ok-a.ensures (c.in_ok-v.ensures _ c.marks-m.ensures.1) c.in_ok-b.ensures).forth, (next₅ c.requires (c.layout-digits.ensures ∙ ap layout c.from.ensures) (c.in_ok-before_a.ensures _ c.marks-m.ensures.0) c.in_ok-a.ensures (c.in_ok-v.ensures _ c.marks-m.ensures.1) c.in_ok-b.ensures (c.in_ok-before_c.ensures _ c.marks-m.ensures.2)).forth), (next₅ c.requires (c.layout-digits.ensures ∙ ap layout c.from.ensures) (c.in_ok-before_a.ensures _ c.marks-m.ensures.0) c.in_ok-a.ensures (c.in_ok-v.ensures _ c.marks-m.ensures.1) c.in_ok-b.ensures (c.in_ok-before_c.ensures _ c.marks-m.ensures.2)).ready)

pub fields-mark-requires-3 : goal.fields-mark-requires-3
fields-mark-requires-3 t c = (next₆ c.requires (c.layout-digits.ensures ∙ ap layout c.from.ensures) (c.in_ok-before_a.ensures _ c.marks-m.ensures.0) c.in_ok-a.ensures (c.in_ok-v.ensures _ c.marks-m.ensures.1) c.in_ok-b.ensures (c.in_ok-before_c.ensures _ c.marks-m.ensures.2) c.in_ok-d.ensures).ready.good

pub fields-finish-requires : goal.fields-finish-requires
fields-finish-requires t c = finishing c.requires (c.layout-digits.ensures ∙ ap layout c.from.ensures) (c.in_ok-before_a.ensures _ c.marks-m.ensures.0) c.in_ok-a.ensures (c.in_ok-v.ensures _ c.marks-m.ensures.1) c.in_ok-b.ensures (c.in_ok-before_c.ensures _ c.marks-m.ensures.2) c.in_ok-d.ensures (c.in_ok-end.ensures _ c.marks-m.ensures.3)

pub fields-returns : goal.fields-returns
fields-returns t c = filled c.requires (c.layout-digits.ensures ∙ ap layout c.from.ensures) (c.in_ok-before_a.ensures _ c.marks-m.ensures.0) c.in_ok-a.ensures (c.in_ok-v.ensures _ c.marks-m.ensures.1) c.in_ok-b.ensures (c.in_ok-before_c.ensures _ c.marks-m.ensures.2) c.in_ok-d.ensures (c.in_ok-end.ensures _ c.marks-m.ensures.3) c.finish.ensures

pub part-returns-in_err-l : goal.part-returns-in_err-l
part-returns-in_err-l t c = rw (refused_is c.from_residual.result c.from_residual.ensures.1) (record { read = c.in_err-l.ensures _; same_nodes = refl; same_records = refl })

pub part-fields-requires : goal.part-fields-requires
part-fields-requires t c =
    let h = c.in_ok-l.ensures in
    (omega (arith, h.further, (h.way 0 (λ i. done nothing_read)).good.inside), fields_ready _ _ _ _ _ _ c.requires.0 _ h c.requires.1)

pub part-returns : goal.part-returns
part-returns t c = part_filled _ _ _ _ _ _ c.requires.0 _ c.in_ok-l.ensures _ _ _ c.fields.ensures
