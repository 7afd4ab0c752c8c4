-- `classed` meets its contract: the names of a node that fits are lower, so the nodes they name are inside the image.
use Rattle.std.proofs.Common.{◌≡◌, true, ℕ, suc, ◌<◌, List, arith}
use mathlib.Core.Bool.{and-true}
use borrow.Author.Tests.{eq-eqb, ne_eqb}
use Rattle.image.specs.declared.records.Node.{Node}
use Rattle.image.specs.Records.{header, node}
use Rattle.image.specs.Rows.{node_fits, class, classed}
use Rattle.image.specs.Inner.Lower.{Lower}
use Rattle.image.proofs.Theorem.Lower.{lower, lower_more}
use Rattle.image.proofs.fits.classed.Goals as goal

inside : (l : List ℕ) (C : ℕ) {P n : ℕ} {ν : Node} → ν ≡ node l n → (n < P) × (node_fits C n (node l n) ≡ true) → Lower P ν
inside l C e h = rw e (lower_more (omega arith) (lower _ _ _ h.1))

pub slot_classed-a-requires : goal.slot_classed-a-requires
slot_classed-a-requires c names = (inside _ _ c.node-node.ensures c.requires).a_lower (rw c.layout-digits.ensures at names)

pub slot_classed-b-requires : goal.slot_classed-b-requires
slot_classed-b-requires c names = (inside _ _ c.node-node.ensures c.requires).b_lower (rw c.layout-digits.ensures at names)

pub slot_classed-c-requires : goal.slot_classed-c-requires
slot_classed-c-requires c names = (inside _ _ c.node-node.ensures c.requires).c_lower (rw c.layout-digits.ensures at names)

pub returns-then-n-routine : goal.returns-then-n-routine
unfolding classed class
returns-then-n-routine c =
    let r = c.args.routine in
    rw (eq-eqb (suc c.args.n) (header r.image.now).nodes (omega (arith, r.whole.nodes_are))) (cc)

pub returns : goal.returns
unfolding classed
returns c =
    let r = c.args.routine in
    rw (ne_eqb (suc c.args.n) (header r.image.now).nodes (λ e. omega (arith, r.whole.nodes_are)), and-true) (cc)
