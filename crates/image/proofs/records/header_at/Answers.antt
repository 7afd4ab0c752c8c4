-- `header_at` meets its contract: the fields of the number that the first eight bytes make.
use mathlib.Core.Path.{ap, ◌∙◌}
use Rattle.image.specs.Records.{header_fields, header}
use Rattle.image.proofs.records.header_at.Goals as goal

pub returns : goal.returns
unfolding header
returns c = c.header_fields.ensures ∙ ap header_fields c.number_at.ensures
