-- Each first byte tells a kind, and no other byte begins such a part.
use mathlib.Core.Path.{sym, ◌∙◌}
use Rattle.reading.proofs.Classes.{skip_from, assign_from, sequence_from, if_from, while_from, fork_from, choice_from, no_statement}
use native.Mathlib.Omega.{arith}
use Rattle.reading.proofs.lead.statement_lead.Goals as goal

pub returns-in-115 : goal.returns-in-115
returns-in-115 c =
    skip_from _ _ c.requires _ c.by_word.ensures (sym c.byte_at.ensures ∙ c.in-115.is)

pub returns-in-118 : goal.returns-in-118
returns-in-118 c =
    assign_from _ _ c.requires _ c.by_variable.ensures (sym c.byte_at.ensures ∙ c.in-118.is)

pub returns-in-123 : goal.returns-in-123
returns-in-123 c =
    sequence_from _ _ c.requires _ c.by_word-in-123.ensures (sym c.byte_at.ensures ∙ c.in-123.is)

pub returns-in-105 : goal.returns-in-105
returns-in-105 c =
    if_from _ _ c.requires _ c.by_word-in-105.ensures (sym c.byte_at.ensures ∙ c.in-105.is)

pub returns-in-119 : goal.returns-in-119
returns-in-119 c =
    while_from _ _ c.requires _ c.by_word-in-119.ensures (sym c.byte_at.ensures ∙ c.in-119.is)

pub returns-in-116 : goal.returns-in-116
returns-in-116 c =
    fork_from _ _ c.requires _ c.by_t.ensures (sym c.byte_at.ensures ∙ c.in-116.is)

pub returns-in-91 : goal.returns-in-91
returns-in-91 c =
    choice_from _ _ c.requires _ c.by_word-in-91.ensures (sym c.byte_at.ensures ∙ c.in-91.is)

pub returns-in_default : goal.returns-in_default
returns-in_default c = no_statement _ _ c.requires _ c.byte_at.ensures (omega arith) (omega arith) (omega arith) (omega arith) (omega arith) (omega arith) (omega arith)
