-- `head_word` meets its contract: the code is the definition, and no sum of the fields leaves 64 bits.
use borrow.Author.Rules.{rules}
use Rattle.image.specs.Term.{head_word}
use Rattle.image.proofs.words.head_word.Goals as goal

pub returns : goal.returns
unfolding head_word
returns c = search rules
