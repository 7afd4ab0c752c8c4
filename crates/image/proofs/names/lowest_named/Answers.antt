-- `lowest_named` meets its contract: once all nodes are passed, each counter has the names of its node.
use Rattle.std.proofs.Common.{rules, ◌≡◌, not, ℕ, ◌∙◌, arith, eqb, get_or}
use Rattle.image.specs.Rows.{named_wrong}
use Rattle.image.proofs.Counting.{none_yet}
use Rattle.image.proofs.names.lowest_named.Goals as goal

pub count_names-requires : goal.count_names-requires
count_names-requires c =
    let known = c.requires in
    (known.0, (omega arith, (omega arith, none_yet 1024)))

pub returns : goal.returns
unfolding named_wrong
returns c =
    let counted = c.count_names in
    let same : (k : ℕ) → not (eqb (get_or counted.new.counts k 0) 1) ≡ named_wrong c.args.routine.image.now k =
    λ k. rw (counted.ensures k, c.requires.0.whole.nodes_are) in
    c.lowest.ensures _ (λ k r h e.
    let found : r ≡ not (eqb (get_or counted.new.counts k 0) 1) = search rules in
    found ∙ same k)
