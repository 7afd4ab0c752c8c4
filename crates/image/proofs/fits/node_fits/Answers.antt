-- `node_fits` meets its contract: the number node by its own test, and else what its callees ensure, joined.
use Rattle.std.proofs.Common.{sym, ◌∙◌}
use borrow.Author.Tests.{eq-eqb, ne_eqb}
use Rattle.image.specs.Rows.{node_fits}
use Rattle.image.proofs.fits.node_fits.Goals as goal

pub returns-then-node-from : goal.returns-then-node-from
unfolding node_fits
returns-then-node-from c = rw (eq-eqb _ _ (c.if-node-from.true ∙ c.from.ensures))

pub returns : goal.returns
unfolding node_fits
returns c = rw (ne_eqb _ _ (λ e. c.if-node-from.false (e ∙ sym c.from.ensures))) (cc)
