-- Each first byte tells a kind, and no other byte begins such a part.
use mathlib.Core.Path.{sym, ◌∙◌}
use Rattle.reading.proofs.Classes.{negative_from, named_from, sum_from, pick_from, value_choice_from, counted_from, no_arithmetic}
use native.Mathlib.Omega.{arith}
use Rattle.reading.proofs.lead.arithmetic_lead.Goals as goal

pub returns-then-is_digit : goal.returns-then-is_digit
returns-then-is_digit c =
    counted_from _ _ c.requires _ _ _ c.by_number.ensures c.byte_at-b.ensures c.is_digit.ensures c.if-is_digit.true

pub returns-in-45 : goal.returns-in-45
returns-in-45 c =
    negative_from _ _ c.requires _ c.by_minus.ensures (sym c.byte_at-b.ensures ∙ c.in-45.is)

pub returns-in-118 : goal.returns-in-118
returns-in-118 c =
    named_from _ _ c.requires _ c.by_variable.ensures (sym c.byte_at-b.ensures ∙ c.in-118.is)

pub returns-in-40 : goal.returns-in-40
returns-in-40 c =
    sum_from _ _ c.requires _ c.by_word.ensures (sym c.byte_at-b.ensures ∙ c.in-40.is)

pub returns-in-112 : goal.returns-in-112
returns-in-112 c =
    pick_from _ _ c.requires _ c.by_word-in-112.ensures (sym c.byte_at-b.ensures ∙ c.in-112.is)

pub returns-in-91 : goal.returns-in-91
returns-in-91 c =
    value_choice_from _ _ c.requires _ c.by_word-in-91.ensures (sym c.byte_at-b.ensures ∙ c.in-91.is)

pub returns-in_default : goal.returns-in_default
returns-in_default c = no_arithmetic _ _ c.requires _ _ c.byte_at-b.ensures c.is_digit.ensures c.if-is_digit.false (omega arith) (omega arith) (omega arith) (omega arith) (omega arith)
