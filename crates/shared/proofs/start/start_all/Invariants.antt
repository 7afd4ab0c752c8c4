-- `start_all` meets its contract: before each turn the settings below s have their first outcome.
use mathlib.Core.Path.{◌≡◌}
use mathlib.Core.Bool.{cond}
use Prim.Native.Nat.{ℕ, ◌<◌}
use lib.ListN.{get_or}
use Rattle.sets.specs.Member.{bit}
use Rattle.shared.proofs.start.start_all.Given as goal

abbrev pub invariant-loop-s : goal.invariant-loop-s
invariant-loop-s l = (t : ℕ) → t < l.s → get_or l.outcome-items t 0 ≡ cond (bit l.set.bits t) 1 0
