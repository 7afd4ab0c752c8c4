-- `node_word` meets its contract: the code is the definition, and no sum of the fields leaves 64 bits.
use Rattle.image.specs.Term.{node_word}
use borrow.Author.Rules.{rules}
use Rattle.image.proofs.words.node_word.Goals as goal

pub returns : goal.returns
unfolding node_word
returns c = search rules
