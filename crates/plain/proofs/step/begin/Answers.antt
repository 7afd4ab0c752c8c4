-- `begin` meets its contract: what is not live passes, a step is charged while the budget lasts, and then the setting is out.
use mathlib.Core.Path.{refl}
use borrow.Author.Rules.{rules}
use native.Mathlib.Omega.{arith}
use Rattle.plain.proofs.Beginning.{passes, steps_on, runs_out}
use Rattle.plain.proofs.Evaluation.{through}
use Rattle.plain.proofs.step.begin.Goals as goal

pub returns-then-p-ne-LIVE : goal.returns-then-p-ne-LIVE
returns-then-p-ne-LIVE c = passes c.args.budget c.args.p c.requires c.if-p-ne-LIVE.true

pub returns-then-p-budget : goal.returns-then-p-budget
returns-then-p-budget c =
    let a = c.args in
    steps_on a.budget a.p c.requires (omega arith) (omega arith) (through (search rules) refl)

pub returns : goal.returns
returns c =
    let a = c.args in
    runs_out a.budget a.p c.requires (omega arith) (omega arith) (through (search rules) refl)
