-- `beyond` meets its contract: what is left when the settings below N are taken away is what is beyond.
use mathlib.Core.Path.{◌∙◌, ap}
use mathlib.Core.Bool.{not, ◌&&◌}
use Prim.Native.Nat.{◌^◌}
use native.Mathlib.Omega.{arith}
use Rattle.sets.specs.Member.{bit}
use Rattle.shared.proofs.Entry.{beyond_left}
use Rattle.shared.proofs.beyond.Goals as goal

pub returns : goal.returns
returns c =
    ap not c.is_empty.ensures
    ∙ beyond_left (2 ^ c.args.options) c.args.set.bits c.take_away.result.bits (omega arith) (omega arith)
    (λ s. c.take_away.ensures s ∙ ap (λ u. bit c.args.set.bits s && not u) (c.all_settings.ensures s))
