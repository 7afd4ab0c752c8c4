-- Nothing is read for no mark, and a mark is a word that opens nothing.
use Rattle.std.proofs.Common.{length, sym, ◌∙◌}
use borrow.Author.Tests.{eqb-false}
use Rattle.reading.proofs.Marking.{a_mark}
use Rattle.reading.proofs.mark.mark.Goals as goal

pub returns : goal.returns
returns c = λ o e. a_mark _ _ c.requires _ o _ (eqb-false (length c.args.x.now) 0 (sym c.is_empty.ensures ∙ c.if-is_empty.false)) c.fixed.ensures e
