-- The names are those of the parts, and there is a place for the node since it has been opened.
use Rattle.std.proofs.Common.{ap, ◌∙◌}
use Rattle.image.specs.Layout.{layout}
use Rattle.reading.proofs.Finishing.{own_fields}
use Rattle.reading.proofs.finish.finish.Goals as goal

pub own_word-own-requires : goal.own_word-own-requires
own_word-own-requires c = own_fields _ _ _ _ _ _ c.requires _ _ _ _ (c.layout-digits.ensures ∙ ap layout c.from.ensures) c.name-in_a.ensures c.name-in_b.ensures c.name-in_c.ensures
