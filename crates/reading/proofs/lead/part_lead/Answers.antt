-- A part begins as its class does, at the first byte of its first token.
use Rattle.reading.proofs.Ways.{refused_is}
use Rattle.std.proofs.Common.{arith, ◌≡◌}
use Rattle.reading.proofs.Passing.{token_met}
use Rattle.reading.proofs.Leading.{no_lead, led_from}
use Rattle.reading.proofs.lead.part_lead.Goals as goal

pub returns-in_err-c : goal.returns-in_err-c
returns-in_err-c c = rw (refused_is c.from_residual.result c.from_residual.ensures.1) (no_lead (token_met _ c.requires.0 c.in_err-c.ensures) _ c.requires.1 c.requires.2)

pub statement_lead-requires : goal.statement_lead-requires
statement_lead-requires c = (token_met _ c.requires.0 c.in_ok-c.ensures).is_met

pub boolean_lead-requires : goal.boolean_lead-requires
boolean_lead-requires c = (token_met _ c.requires.0 c.in_ok-c.ensures).is_met

pub arithmetic_lead-requires : goal.arithmetic_lead-requires
arithmetic_lead-requires c = (token_met _ c.requires.0 c.in_ok-c.ensures).is_met

pub returns-in-3 : goal.returns-in-3
returns-in-3 c = led_from (token_met _ c.requires.0 c.in_ok-c.ensures) _ c.requires.1 c.requires.2 _ _ c.in-3.is c.statement_lead.ensures

pub returns-in-2 : goal.returns-in-2
returns-in-2 c = led_from (token_met _ c.requires.0 c.in_ok-c.ensures) _ c.requires.1 c.requires.2 _ _ c.in-2.is c.boolean_lead.ensures

pub returns-in_default : goal.returns-in_default
returns-in_default c =
    let one : c.args.class ≡ 1 = omega (arith, c.requires.1, c.requires.2) in
    led_from (token_met _ c.requires.0 c.in_ok-c.ensures) _ c.requires.1 c.requires.2 _ _ one c.arithmetic_lead.ensures
