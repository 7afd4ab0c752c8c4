-- `start_all` meets its contract: before each turn the settings below s have their first outcome.
use mathlib.Core.Path.{refl, ◌∙◌, ap}
use native.Mathlib.Omega.{arith}
use lib.IntN.{pos}
use lib.ListN.{replicate}
use Rattle.shared.proofs.Starting.{all_started}
use Rattle.shared.proofs.start.start_all.Goals as goal

pub returns-clause-starts : goal.returns-clause-starts
returns-clause-starts c =
    let pre = c.requires.0 in
    all_started c.args.set _ _ refl (c.loop-s.auto.outcome-items ∙ pre.outcomes_length)
    (c.fill.ensures.after (λ y e. search) ∙ ap (λ n. replicate n (pos 0)) pre.codes_length)
    (c.fill-2.ensures.after (λ y e. search) ∙ ap (λ n. replicate n 0) pre.steps_length)
    c.requires.1
    (λ t h. c.loop-s.invariant t (omega (arith, h, pre.outcomes_length)))
