-- `ask_for` meets its contract: before each turn the settings below s whose answer is yes are found.
use native.Mathlib.Omega.{arith}
use Rattle.shared.proofs.Found.{found_none}
use Rattle.shared.proofs.Plans.{some_setting, moved_on}
use Rattle.shared.proofs.ask.ask_for.Goals as goal

pub setting-setting-requires : goal.setting-setting-requires
setting-setting-requires c = some_setting c.args.plan.now

pub invariant_of-setting : goal.invariant_of-setting
invariant_of-setting c = record { ready = moved_on c.args.plan.now c.loop-s.setting.ready c.loop-s.invariant.0 (omega arith) }

pub loop-s-init : goal.loop-s-init
loop-s-init c = (c.setting-setting.ensures.0, rw c.empty-found.ensures found_none)
