-- An `or` by its first byte, or else an `and`.
use Rattle.reading.proofs.Ways.{refused_is}
use Rattle.written.specs.Machine.{joins}
use Rattle.reading.proofs.Passing.{token_met}
use Rattle.reading.proofs.Joining.{or_from, and_from, joined_as}
use Rattle.reading.proofs.condition_lead.join.Goals as goal

pub returns-in_err-c : goal.returns-in_err-c
returns-in_err-c c = rw (refused_is c.from_residual.result c.from_residual.ensures.1) (λ F h. (token_met _ c.requires c.in_err-c.ensures).no_part F joins h)

pub word-requires : goal.word-requires
word-requires c = (token_met _ c.requires c.in_ok-c.ensures).is_met.good

pub returns-in_err-word : goal.returns-in_err-word
returns-in_err-word c = rw (refused_is c.from_residual-in_err-word.result c.from_residual-in_err-word.ensures.1) (or_from _ _ _ (token_met _ c.requires c.in_ok-c.ensures) _ c.byte_at.ensures c.if-byte_at-eq111.true _ c.in_err-word.ensures)

pub returns-then-byte_at-eq111 : goal.returns-then-byte_at-eq111
returns-then-byte_at-eq111 c = joined_as c.led.ensures (or_from _ _ _ (token_met _ c.requires c.in_ok-c.ensures) _ c.byte_at.ensures c.if-byte_at-eq111.true _ c.in_ok-word.ensures)

pub word-requires-2 : goal.word-requires-2
word-requires-2 c = (token_met _ c.requires c.in_ok-c.ensures).is_met.good

pub returns-in_err-word-2 : goal.returns-in_err-word-2
returns-in_err-word-2 c = rw (refused_is c.from_residual-in_err-word-2.result c.from_residual-in_err-word-2.ensures.1) (and_from _ _ _ (token_met _ c.requires c.in_ok-c.ensures) _ c.byte_at.ensures c.if-byte_at-eq111.false _ c.in_err-word-2.ensures)

pub returns : goal.returns
returns c = joined_as c.led-2.ensures (and_from _ _ _ (token_met _ c.requires c.in_ok-c.ensures) _ c.byte_at.ensures c.if-byte_at-eq111.false _ c.in_ok-word-2.ensures)
