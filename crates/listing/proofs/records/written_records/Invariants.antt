-- `written_records` meets its contract: the two tables are those of the sizes and of the records.
use Rattle.image.specs.Tree.{condition}
use Rattle.written.specs.Count.{sizeᶜ}
use Rattle.listing.specs.Inner.Counting.{capped, node_records}
use Rattle.listing.proofs.records.written_records.Given as goal

abbrev pub ghost-fill : goal.ghost-fill
ghost-fill a = λ k. capped (sizeᶜ (condition a.next.0.now.image.now k))

abbrev pub ghost-fill-2 : goal.ghost-fill-2
ghost-fill-2 a = λ k. capped (node_records a.next.0.image.now k)
