-- `condition_at` meets its contract: the fields of the number that the four bytes of record k make.
use mathlib.Core.Path.{ap, ◌∙◌}
use Rattle.image.specs.Records.{condition_fields, condition_record}
use Rattle.image.proofs.records.condition_at.Goals as goal

pub returns : goal.returns
unfolding condition_record
returns c = c.condition_fields.ensures ∙ ap condition_fields c.number_at.ensures
