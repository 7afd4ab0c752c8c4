-- `act` meets its contract: an assignment and a throw as in the run of one setting, and else the fault is taken.
use mathlib.Core.Path.{◌∙◌}
use native.Mathlib.Omega.{arith}
use Rattle.plain.proofs.Statements.{arrives}
use Rattle.shared.proofs.Acts.{assign_acts, throw_acts, take_acts}
use Rattle.shared.proofs.act.act.Goals as goal

pub returns-then-node-from : goal.returns-then-node-from
returns-then-node-from c =
    let a = c.args in
    arrives (assign_acts a.setting.now.routine.image.now a.node a.setting.now.s a.p a.numbers.now (c.if-node-from.true ∙ c.from.ensures)) c.assign.ensures

pub returns-then-node-from-2 : goal.returns-then-node-from-2
returns-then-node-from-2 c =
    let a = c.args in
    arrives (throw_acts a.setting.now.routine.image.now a.node a.setting.now.s a.p a.numbers.now (c.if-node-from-2.true ∙ c.from-2.ensures)) c.fault.ensures

pub returns : goal.returns
returns c =
    let a = c.args in
    arrives (take_acts a.setting.now.routine.image.now a.node a.setting.now.s a.p a.numbers.now (λ e. omega arith) (λ e. omega arith)) c.take.ensures
