-- `begin_for` meets its contract: before each turn the settings below s are begun.
use mathlib.Core.Path.{◌≡◌}
use native.Mathlib.Omega.{arith}
use Rattle.shared.proofs.Beginning.{none_begun, one_more, to_go, all_begun}
use Rattle.shared.proofs.begin.begin_for.Goals as goal

-- in the end all settings are begun
pub returns-clause-begun : goal.returns-clause-begun
returns-clause-begun c =
    let all : c.loop-s.s ≡ c.args.plan.now.settings = omega arith in
    all_begun c.args.plan.now c.args.turn _ _ c.requires c.loop-s.invariant.2 (rw all at c.loop-s.invariant.1) c.counted.ensures

pub loop-s-init : goal.loop-s-init
loop-s-init c = (search, none_begun c.empty-left.ensures c.requires.tallied, search)

pub loop-s-preserved : goal.loop-s-preserved
loop-s-preserved c = (search, one_more c.loop-s.invariant.1 c.begin_at-left.ensures.began, search)

pub counted-requires : goal.counted-requires
counted-requires c =
    let all : c.loop-s.s ≡ c.args.plan.now.settings = omega arith in
    (c.requires.visits_few, to_go c.args.plan.now c.args.turn _ c.loop-s.lent c.requires c.loop-s.invariant.2 (rw all at c.loop-s.invariant.1))
