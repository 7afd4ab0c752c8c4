-- Each first byte tells a kind, and no other byte begins a condition.
use Rattle.reading.proofs.Ways.{refused_is}
use Rattle.std.proofs.Common.{sym, ◌∙◌, arith}
use Rattle.std.specs.Prelude.{Err}
use Rattle.image.specs.declared.refusals.Refusal.TheVariants.{TextWrong}
use Rattle.written.specs.Machine.{conditions}
use Rattle.reading.proofs.Passing.{token_met}
use Rattle.reading.proofs.ConditionLeads.{condition_on, true_from, false_from, not_from, bracket_from, option_from, none_from}
use Rattle.reading.proofs.condition_lead.condition_lead.Goals as goal

pub returns-in_err-c : goal.returns-in_err-c
returns-in_err-c c = rw (refused_is c.from_residual.result c.from_residual.ensures.1) (λ h. (token_met _ c.requires.0 c.in_err-c.ensures).no_part _ conditions h)

pub by_record-requires : goal.by_record-requires
by_record-requires c = (token_met _ c.requires.0 c.in_ok-c.ensures).is_met.good

pub by_record-requires-in-102 : goal.by_record-requires-in-102
by_record-requires-in-102 c = (token_met _ c.requires.0 c.in_ok-c.ensures).is_met.good

pub by_record-requires-in-110 : goal.by_record-requires-in-110
by_record-requires-in-110 c = (token_met _ c.requires.0 c.in_ok-c.ensures).is_met.good

pub by_record-requires-in-40 : goal.by_record-requires-in-40
by_record-requires-in-40 c = (token_met _ c.requires.0 c.in_ok-c.ensures).is_met.good

pub by_option-requires : goal.by_option-requires
by_option-requires c = ((token_met _ c.requires.0 c.in_ok-c.ensures).is_met.good, (token_met _ c.requires.0 c.in_ok-c.ensures).is_met.faces.before_end, c.requires.1)

pub returns-in-116 : goal.returns-in-116
returns-in-116 c = condition_on _ _ _ _ (token_met _ c.requires.0 c.in_ok-c.ensures) _ (true_from _ _ _ (token_met _ c.requires.0 c.in_ok-c.ensures).is_met _ c.by_record.ensures (sym c.byte_at.ensures ∙ c.in-116.is))

pub returns-in-102 : goal.returns-in-102
returns-in-102 c = condition_on _ _ _ _ (token_met _ c.requires.0 c.in_ok-c.ensures) _ (false_from _ _ _ (token_met _ c.requires.0 c.in_ok-c.ensures).is_met _ c.by_record-in-102.ensures (sym c.byte_at.ensures ∙ c.in-102.is))

pub returns-in-110 : goal.returns-in-110
returns-in-110 c = condition_on _ _ _ _ (token_met _ c.requires.0 c.in_ok-c.ensures) _ (not_from _ _ _ (token_met _ c.requires.0 c.in_ok-c.ensures).is_met _ c.by_record-in-110.ensures (sym c.byte_at.ensures ∙ c.in-110.is))

pub returns-in-40 : goal.returns-in-40
returns-in-40 c = condition_on _ _ _ _ (token_met _ c.requires.0 c.in_ok-c.ensures) _ (bracket_from _ _ _ (token_met _ c.requires.0 c.in_ok-c.ensures).is_met _ c.by_record-in-40.ensures (sym c.byte_at.ensures ∙ c.in-40.is))

pub returns-in-111 : goal.returns-in-111
returns-in-111 c = condition_on _ _ _ _ (token_met _ c.requires.0 c.in_ok-c.ensures) _ (option_from _ _ _ (token_met _ c.requires.0 c.in_ok-c.ensures).is_met _ c.by_option.ensures (sym c.byte_at.ensures ∙ c.in-111.is) c.requires.1)

pub returns-in_default : goal.returns-in_default
returns-in_default c =
    condition_on _ c.args.options _ _ (token_met _ c.requires.0 c.in_ok-c.ensures) (Err (TextWrong c.in_ok-c.c.at))
    (none_from c.args.text.now c.args.options _ (token_met _ c.requires.0 c.in_ok-c.ensures).is_met c.byte_at.result c.byte_at.ensures (omega arith) (omega arith) (omega arith) (omega arith) (omega arith))
