-- `untouched` meets its contract: it is that of the two comparisons.
use Rattle.acceptance.specs.Theorem.Compared.{stays_so}
use Rattle.acceptance.proofs.Equal.{numbers_equal, progress_equal}
use Rattle.acceptance.proofs.alone.untouched.Goals as goal

pub returns : goal.returns
returns c =
    stays_so _ c.args.p _ c.fill.ensures (progress_equal _ _ c.eq.ensures) (numbers_equal c.args.left.now c.as_slice.ensures c.eq-2.ensures)
