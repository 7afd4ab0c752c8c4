-- `condition_size` meets its contract: one more than its names' together.
use mathlib.Core.Path.{◌∙◌}
use native.Mathlib.Omega.{arith}
use Rattle.listing.proofs.Counts.{left_there, right_there, whole_size}
use Rattle.listing.proofs.records.condition_size.Goals as goal

pub named_size-left-requires : goal.named_size-left-requires
named_size-left-requires c = left_there c.requires c.condition-r.ensures c.condition_layout-digits.ensures

pub named_size-right-requires : goal.named_size-right-requires
named_size-right-requires c = right_there c.requires c.condition-r.ensures c.condition_layout-digits.ensures

pub overflow_add-left : goal.overflow_add-left
overflow_add-left c =
    let all = whole_size c.requires c.condition-r.ensures c.condition_layout-digits.ensures c.named_size-left.ensures c.named_size-right.ensures in
    omega (arith, all.0, all.1)

pub overflow_add-left-2 : goal.overflow_add-left-2
overflow_add-left-2 c =
    let all = whole_size c.requires c.condition-r.ensures c.condition_layout-digits.ensures c.named_size-left.ensures c.named_size-right.ensures in
    omega (arith, all.0, all.1)

pub returns : goal.returns
returns c =
    let all = whole_size c.requires c.condition-r.ensures c.condition_layout-digits.ensures c.named_size-left.ensures c.named_size-right.ensures in
    c.min.ensures ∙ all.2 _ (omega arith)
