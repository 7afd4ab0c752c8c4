-- `condition_word` meets its contract: the code is the definition, and no sum of the fields leaves 32 bits.
use borrow.Author.Rules.{rules}
use Rattle.image.specs.Term.{condition_word}
use Rattle.image.proofs.words.condition_word.Goals as goal

pub returns : goal.returns
unfolding condition_word
returns c = search rules
