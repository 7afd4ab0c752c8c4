-- `begin_at` meets its contract: a setting that is not of the set is left alone; one of the set is begun, and is left where it then is live.
use mathlib.Core.Path.{◌≡◌, sym, ◌∙◌}
use mathlib.Core.Bool.{true}
use native.Mathlib.Omega.{arith}
use Rattle.sets.specs.Member.{bit}
use Rattle.shared.proofs.Beginning.{joins, joins_not}
use Rattle.shared.proofs.begin.begin_at.Goals as goal

pub returns-then-p-eq-LIVE-clause-began : goal.returns-then-p-eq-LIVE-clause-began
returns-then-p-eq-LIVE-clause-began c =
    let a = c.args in
    let pre = c.requires in
    let on : bit a.on.bits a.s ≡ true = sym c.has.ensures ∙ c.if-not-has.false in
    joins a.on a.left pre.tallied pre.setting_below on c.progress.ensures c.begin-p.ensures
    (omega arith) (omega (arith, pre.setting_below, a.plan.now.prepared.few)) c.set_progress.ensures.is_put c.with.ensures

pub returns-clause-began : goal.returns-clause-began
returns-clause-began c =
    let a = c.args in
    let pre = c.requires in
    let on : bit a.on.bits a.s ≡ true = sym c.has.ensures ∙ c.if-not-has.false in
    joins_not a.on a.left pre.tallied pre.setting_below on c.progress.ensures c.begin-p.ensures
    (λ e. omega arith) c.set_progress.ensures.is_put
