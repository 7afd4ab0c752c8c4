-- The word stands there whole, or the first byte that is another is the place.
use native.Mathlib.Omega.{arith}
use borrow.Author.Rules.{rules}
use Rattle.written.specs.Token.{nothing}
use Rattle.reading.proofs.Tokens.{agree_inside}
use Rattle.reading.proofs.Returns.{agrees, word_wrong, word_whole}
use Rattle.reading.proofs.token.word.Goals as goal

pub returns-then-n-word : goal.returns-then-n-word
returns-then-n-word c = search (word_wrong, rules)

pub overflow_add-c : goal.overflow_add-c
overflow_add-c c = omega (arith, agrees c.args.text.now c.args.c c.args.word.now nothing c.agreed-n.result c.agreed-n.ensures, agree_inside c.args.text.now c.args.word.now c.args.c.at c.requires.inside)

pub returns : goal.returns
returns c = search (word_whole, rules)
