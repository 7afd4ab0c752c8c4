-- Fields of a known kind fit a word.
use Rattle.std.proofs.Common.{ap, ◌∙◌}
use Rattle.image.specs.Term.{node_word}
use Rattle.reading.proofs.Finishing.{word_is}
use Rattle.reading.proofs.finish.own_word.Goals as goal

pub returns : goal.returns
returns c = word_is _ _ _ _ _ _ _ _ c.variable_of-variable.ensures c.number_of-value.ensures
    (c.node_word.ensures ∙ ap (λ k. node_word k c.variable_of-variable.result c.number_of-value.result c.args.a c.args.b c.args.c) c.from.ensures)
