-- The first byte of the token is met, and then the word is read.
use Rattle.reading.proofs.Ways.{refused_is}
use Rattle.reading.proofs.Passing.{token_met}
use Rattle.reading.proofs.Marking.{fixed_refused, fixed_word}
use Rattle.reading.proofs.mark.fixed.Goals as goal

pub returns-in_err-d : goal.returns-in_err-d
returns-in_err-d c = rw (refused_is c.from_residual.result c.from_residual.ensures.1) (fixed_refused _ _ _ _ c.in_err-d.ensures)

pub word-requires : goal.word-requires
word-requires c = (token_met _ c.requires c.in_ok-d.ensures).is_met.good

pub returns : goal.returns
returns c = fixed_word _ _ _ _ _ c.in_ok-d.ensures c.word.ensures
