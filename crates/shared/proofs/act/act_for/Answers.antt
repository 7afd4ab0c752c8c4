-- `act_for` meets its contract: before each turn the settings of the set below s have had theirs.
use mathlib.Core.Path.{◌≡◌}
use native.Mathlib.Omega.{arith}
use native.Mathlib.Numerals.{add-one}
use Rattle.shared.proofs.Acts.{acted_for}
use Rattle.shared.proofs.Each.{upto_next}
use Rattle.shared.proofs.Plans.{some_setting, moved_on}
use Rattle.shared.proofs.act.act_for.Goals as goal

pub setting-setting-requires : goal.setting-setting-requires
setting-setting-requires c = some_setting c.args.plan.now

pub invariant_of-setting : goal.invariant_of-setting
invariant_of-setting c = record { ready = moved_on c.args.plan.now c.loop-s.setting.ready c.loop-s.invariant.1 (omega arith) }

pub act_at-requires : goal.act_at-requires
act_at-requires c =
    let pre = c.requires.every in
    rw c.loop-s.invariant.1
    (record { expression = pre.expression; variable_below = pre.variable_below; lent = c.loop-s.invariant.2 })

pub loop-s-preserved : goal.loop-s-preserved
loop-s-preserved c =
    let acted = rw c.loop-s.invariant.1 at c.act_at.ensures.acted in
    (search, c.loop-s.invariant.1, acted.lent, rw add-one (upto_next c.loop-s.invariant.3 acted.acted))

pub returns-clause-acted : goal.returns-clause-acted
returns-clause-acted c =
    let all : c.loop-s.s ≡ c.args.plan.now.settings = omega arith in
    acted_for c.args.plan.now c.args.node c.args.on _ _ c.requires.below c.loop-s.invariant.2 (rw all at c.loop-s.invariant.3)
