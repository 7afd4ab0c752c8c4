-- A condition's operands are read behind its first token, so that fewer bytes are left for each; what is written follows from the laws of ConditionParts and ConditionPairs.
use Rattle.reading.proofs.Ways.{refused_is}
use Rattle.std.proofs.Common.{ap, refl, arith}
use Rattle.image.specs.Kinds.{condition_kind_number}
use Rattle.reading.proofs.Naming.{no_operand}
use Rattle.reading.proofs.ConditionLeads.{any}
use Rattle.reading.proofs.ConditionParts.{first_ready, first_less, leaf_storable, leaf_reads, not_refused, not_storable, not_reads}
use Rattle.reading.proofs.ConditionPairs.{first_refused, join_refused, second_ready, second_less, second_refused, close_refused, two_storable, two_reads}
use Rattle.reading.proofs.condition.+condition.Goals as goal

-- ---- its first token

pub returns-in_err-lead : goal.returns-in_err-lead
returns-in_err-lead t c = rw (refused_is c.from_residual.result c.from_residual.ensures.1) (record { read = c.in_err-lead.ensures; same_space = refl })

-- ---- an operand

pub condition-requires : goal.condition-requires
condition-requires t c =
    let less = first_less _ _ _ _ _ c.requires c.in_ok-lead.ensures in
    (omega (arith, less), first_ready _ _ _ _ _ c.requires c.in_ok-lead.ensures)

pub returns-in_err-a-in-Not : goal.returns-in_err-a-in-Not
returns-in_err-a-in-Not t c = rw (refused_is c.from_residual-in_err-a-in-Not.result c.from_residual-in_err-a-in-Not.ensures.1) (not_refused _ _ _ _ _ c.requires c.in_ok-lead.ensures _ (ap condition_kind_number c.in-Not.is) c.in_err-a-in-Not.ensures)

pub store-requires : goal.store-requires
store-requires t c = not_storable _ _ _ _ _ c.requires c.in_ok-lead.ensures c.in_ok-a-in-Not.ensures c.before-left.ensures

pub returns-in_ok-a-in-Not : goal.returns-in_ok-a-in-Not
returns-in_ok-a-in-Not t c = not_reads _ _ _ _ _ c.requires c.in_ok-lead.ensures c.in_ok-a-in-Not.ensures c.before-left.ensures (ap condition_kind_number c.in-Not.is) c.store.ensures

-- ---- two operands

pub condition-requires-in-And : goal.condition-requires-in-And
condition-requires-in-And t c =
    let less = first_less _ _ _ _ _ c.requires c.in_ok-lead.ensures in
    (omega (arith, less), first_ready _ _ _ _ _ c.requires c.in_ok-lead.ensures)

pub returns-in_err-a-in-And : goal.returns-in_err-a-in-And
returns-in_err-a-in-And t c = rw (refused_is c.from_residual-in_err-a-in-And.result c.from_residual-in_err-a-in-And.ensures.1) (first_refused _ _ _ _ _ c.requires c.in_ok-lead.ensures (ap condition_kind_number c.in-And.is) _ c.in_err-a-in-And.ensures)

pub join-requires : goal.join-requires
join-requires t c = (c.in_ok-a-in-And.ensures.read.way any).good

pub returns-in_err-j-in-And : goal.returns-in_err-j-in-And
returns-in_err-j-in-And t c = rw (refused_is c.from_residual-in_err-j-in-And.result c.from_residual-in_err-j-in-And.ensures.1) (join_refused _ _ _ _ _ c.requires c.in_ok-lead.ensures (ap condition_kind_number c.in-And.is) c.in_ok-a-in-And.ensures _ c.in_err-j-in-And.ensures)

pub condition-requires-in-And-2 : goal.condition-requires-in-And-2
condition-requires-in-And-2 t c =
    let less = second_less _ _ _ _ _ c.requires c.in_ok-lead.ensures (ap condition_kind_number c.in-And.is) c.in_ok-a-in-And.ensures c.in_ok-j-in-And.ensures in
    (omega (arith, less), second_ready _ _ _ _ _ c.requires c.in_ok-lead.ensures (ap condition_kind_number c.in-And.is) c.in_ok-a-in-And.ensures c.in_ok-j-in-And.ensures)

pub returns-in_err-b-in-And : goal.returns-in_err-b-in-And
returns-in_err-b-in-And t c = rw (refused_is c.from_residual-in_err-b-in-And.result c.from_residual-in_err-b-in-And.ensures.1) (second_refused _ _ _ _ _ c.requires c.in_ok-lead.ensures (ap condition_kind_number c.in-And.is) c.in_ok-a-in-And.ensures c.in_ok-j-in-And.ensures _ c.in_err-b-in-And.ensures)

pub fixed-requires : goal.fixed-requires
fixed-requires t c = (c.in_ok-b-in-And.ensures.read.way any).good

pub returns-in_err-d-in-And : goal.returns-in_err-d-in-And
returns-in_err-d-in-And t c = rw (refused_is c.from_residual-in_err-d-in-And.result c.from_residual-in_err-d-in-And.ensures.1) (close_refused _ _ _ _ _ c.requires c.in_ok-lead.ensures (ap condition_kind_number c.in-And.is) c.in_ok-a-in-And.ensures c.in_ok-j-in-And.ensures c.in_ok-b-in-And.ensures _ c.in_err-d-in-And.ensures)

pub store-requires-in-And : goal.store-requires-in-And
store-requires-in-And t c = two_storable _ _ _ _ _ c.requires c.in_ok-lead.ensures (ap condition_kind_number c.in-And.is) c.in_ok-a-in-And.ensures c.in_ok-j-in-And.ensures c.in_ok-b-in-And.ensures c.in_ok-d-in-And.ensures c.before-left-in-And.ensures c.before-right.ensures

pub returns-in_ok-d-in-And : goal.returns-in_ok-d-in-And
returns-in_ok-d-in-And t c = two_reads _ _ _ _ _ c.requires c.in_ok-lead.ensures (ap condition_kind_number c.in-And.is) c.in_ok-a-in-And.ensures c.in_ok-j-in-And.ensures c.in_ok-b-in-And.ensures c.in_ok-d-in-And.ensures c.before-left-in-And.ensures c.before-right.ensures c.store-in-And.ensures

-- ---- none

pub store-requires-in_default : goal.store-requires-in_default
store-requires-in_default t c = leaf_storable _ _ _ _ _ c.requires c.in_ok-lead.ensures

pub returns-in_default : goal.returns-in_default
returns-in_default t c =
    let k = no_operand _ c.in_default.not-Not c.in_default.not-And in
    leaf_reads _ _ _ _ _ c.requires c.in_ok-lead.ensures k.0 k.1 c.store-in_default.ensures
