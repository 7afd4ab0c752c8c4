-- Each first byte tells a kind, and no other byte begins such a part.
use mathlib.Core.Path.{sym, ◌∙◌}
use Rattle.reading.proofs.Classes.{true_from, false_from, not_from, both_from, less_from, test_choice_from, no_boolean}
use native.Mathlib.Omega.{arith}
use Rattle.reading.proofs.lead.boolean_lead.Goals as goal

pub returns-in-116 : goal.returns-in-116
returns-in-116 c =
    true_from _ _ c.requires _ c.by_word.ensures (sym c.byte_at.ensures ∙ c.in-116.is)

pub returns-in-102 : goal.returns-in-102
returns-in-102 c =
    false_from _ _ c.requires _ c.by_word-in-102.ensures (sym c.byte_at.ensures ∙ c.in-102.is)

pub returns-in-110 : goal.returns-in-110
returns-in-110 c =
    not_from _ _ c.requires _ c.by_word-in-110.ensures (sym c.byte_at.ensures ∙ c.in-110.is)

pub returns-in-98 : goal.returns-in-98
returns-in-98 c =
    both_from _ _ c.requires _ c.by_word-in-98.ensures (sym c.byte_at.ensures ∙ c.in-98.is)

pub returns-in-40 : goal.returns-in-40
returns-in-40 c =
    less_from _ _ c.requires _ c.by_word-in-40.ensures (sym c.byte_at.ensures ∙ c.in-40.is)

pub returns-in-91 : goal.returns-in-91
returns-in-91 c =
    test_choice_from _ _ c.requires _ c.by_word-in-91.ensures (sym c.byte_at.ensures ∙ c.in-91.is)

pub returns-in_default : goal.returns-in_default
returns-in_default c = no_boolean _ _ c.requires _ c.byte_at.ensures (omega arith) (omega arith) (omega arith) (omega arith) (omega arith) (omega arith)
