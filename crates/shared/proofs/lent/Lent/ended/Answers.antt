-- `ended` meets its contract: before each turn the settings below s with this outcome are found.
use mathlib.Core.Path.{◌≡◌}
use native.Mathlib.Omega.{arith}
use lib.ListN.{length}
use Rattle.shared.proofs.Found.{found_none}
use Rattle.shared.proofs.SetOf.{found_set}
use Rattle.shared.proofs.lent.Lent.ended.Goals as goal

pub loop-s-init : goal.loop-s-init
loop-s-init c = (omega (arith, c.empty-found.ensures), rw c.empty-found.ensures found_none)

pub returns : goal.returns
returns c =
    let all : c.loop-s.s ≡ length c.args.self.now.outcomes.now = omega arith in
    found_set c.loop-s.found c.requires c.loop-s.invariant.0 (rw all at c.loop-s.invariant.1)
