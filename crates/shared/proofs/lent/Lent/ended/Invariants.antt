-- `ended` meets its contract: before each turn the settings below s with this outcome are found.
use mathlib.Core.Bool.{true}
use Prim.Native.Nat.{◌^◌, ◌<◌}
use lib.Dec.{eqb}
use lib.ListN.{get_or}
use Rattle.shared.proofs.Found.{Found}
use Rattle.shared.proofs.lent.Lent.ended.Given as goal

abbrev pub invariant-loop-s : goal.invariant-loop-s
invariant-loop-s l = (l.found.bits < 2 ^ 64) × Found l.s (λ s. true) (λ s. eqb (get_or l.self.outcomes.now s 0) l.outcome) l.found.bits
