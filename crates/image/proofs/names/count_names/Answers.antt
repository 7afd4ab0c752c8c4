-- `count_names` meets its contract: after n nodes each counter has the names that they give its node.
use Rattle.std.proofs.Common.{refl, ◌∙◌, arith}
use native.Mathlib.Numerals.{add-one}
use Rattle.image.specs.Records.{node}
use Rattle.image.specs.Rows.{names}
use Rattle.image.specs.Inner.Lower.{Lower}
use Rattle.image.proofs.Theorem.Lower.{lower, lower_more}
use Rattle.image.proofs.Counting.{names_le}
use Rattle.image.proofs.names.count_names.Goals as goal

pub loop-n-init : goal.loop-n-init
unfolding names
loop-n-init c = (refl, λ k. c.requires.1.1.1 k)

pub count_node-requires : goal.count_node-requires
count_node-requires c =
    let l = c.args.routine.image.now in
    let n = c.loop-n.n in
    let low : Lower n (node l n) = lower _ _ _ (c.requires.0.fits n (omega arith)) in (
      rw c.node.ensures (lower_more (omega arith) low),
      λ k. omega (arith, c.loop-n.invariant.1 k, names_le l n k),
    )

pub loop-n-preserved : goal.loop-n-preserved
unfolding names
loop-n-preserved c =
    let counted = c.count_node in (
      counted.auto.counts ∙ c.loop-n.invariant.0,
      λ k. rw (add-one, ← c.loop-n.invariant.1 k, ← c.node.ensures) (counted.ensures k),
    )
