-- `ask_at` meets its contract: a setting joins those found exactly if it is of the set and its answer is yes.
use mathlib.Core.Path.{◌≡◌, sym, ◌∙◌, ap, ap₂}
use mathlib.Core.Bool.{Bool, true, ◌&&◌}
use Prim.Native.Nat.{ℕ, ◌+◌, ◌-◌, ◌*◌, ◌<◌}
use lib.ListN.{get_or, take, drop}
use Rattle.sets.specs.Member.{bit}
use Rattle.imp.specs.Shared.{Settings}
use Rattle.image.specs.declared.records.Node.{Node}
use Rattle.image.specs.Bytes.{Bytes}
use Rattle.image.specs.Sets.{settings}
use Rattle.shared.specs.declared.lent.Lent.{Lent}
use Rattle.shared.specs.Inner.Asking.{asking, answers, Asking}
use Rattle.shared.proofs.Found.{found_no, found_yes}
use Rattle.shared.proofs.Parts.{part_is}
use Rattle.shared.proofs.Plans.{few_settings}
use Rattle.shared.proofs.ask.ask_at.Goals as goal

-- setting s is of the set, and it was asked on its own part of what is lent
is_answer : (l : Bytes) (ν : Node) (L : Lent) {s : ℕ} {r : Bool} (S : Settings) → Asking l ν L → s < settings l → S s ≡ true
    → r ≡ asking l ν s (get_or L.outcomes.now s 0) (take ((s * 16 + 16) - s * 16) (drop (s * 16) L.store.now)) → (S s && answers l ν L s) ≡ r
is_answer l ν L {s} S h below on told =
    ap₂ ◌&&◌ on (sym (told ∙ ap (asking l ν s (get_or L.outcomes.now s 0)) (part_is L.store.now (settings l) s h.store_length below)))

pub returns-then-ask : goal.returns-then-ask
returns-then-ask c =
    let a = c.args in
    let σ = a.setting.now in
    let l = σ.routine.image.now in
    let on : bit a.on.bits σ.s ≡ true = sym c.has.ensures ∙ c.if-not-has.false in
    found_yes (bit a.on.bits) (answers l a.node a.lent.now) σ.s a.found.bits c.with.result.bits (few_settings σ.ready)
    (is_answer l a.node a.lent.now (bit a.on.bits) c.requires σ.ready.setting_below on c.ask.ensures ∙ c.if-ask.true) c.with.ensures

pub returns : goal.returns
returns c =
    let a = c.args in
    let σ = a.setting.now in
    let l = σ.routine.image.now in
    let on : bit a.on.bits σ.s ≡ true = sym c.has.ensures ∙ c.if-not-has.false in
    found_no (bit a.on.bits) (answers l a.node a.lent.now) σ.s a.found.bits
    (is_answer l a.node a.lent.now (bit a.on.bits) c.requires σ.ready.setting_below on c.ask.ensures ∙ c.if-ask.false)
