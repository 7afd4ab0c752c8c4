-- `act_at` meets its contract: the setting's part comes back acted on, with its progress, and no other setting is changed.
use mathlib.Core.Path.{sym, ◌∙◌, ap₂}
use Rattle.plain.specs.Inner.Progress.{state_of}
use Rattle.plain.proofs.Statements.{arrives}
use Rattle.image.specs.Sets.{settings}
use Rattle.shared.specs.Inner.Acting.{acting}
use Rattle.shared.proofs.Acts.{acted}
use Rattle.shared.proofs.Parts.{part_is}
use Rattle.shared.proofs.act.act_at.Goals as goal

pub returns-clause-acted : goal.returns-clause-acted
returns-clause-acted c =
    let a = c.args in
    let σ = a.setting.now in
    let l = σ.routine.image.now in
    let below = σ.ready.setting_below in
    acted l a.node a.on σ.s _ c.requires.lent below (sym c.has.ensures ∙ c.if-not-has.false) c.set_progress.ensures.store c.set_progress.ensures.is_put
    (arrives
    (ap₂ (λ p ns. acting l a.node σ.s (state_of p ns)) c.progress-p.ensures (part_is a.lent.now.store.now (settings l) σ.s c.requires.lent.store_length below))
    c.act-q.ensures)
