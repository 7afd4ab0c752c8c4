-- What the machine answers, and where it reads a routine, the image of it.
use Rattle.reading.proofs.Ways.{refused_is}
use Rattle.reading.proofs.Answering.{says_refusal, says_image}
use Rattle.reading.proofs.read.Goals as goal

pub returns-in_err-r : goal.returns-in_err-r
returns-in_err-r c = rw (refused_is c.from_residual.result c.from_residual.ensures.1) (says_refusal _ _ _ c.in_err-r.ensures.read)

pub returns : goal.returns
returns c = says_image _ _ _ _ c.in_ok-r.ensures _ _ _ c.write_image.ensures
