-- `put_lines` meets its contract: before each turn the lines of the first s settings are written, and none is longer than 32 bytes.
use Prim.Native.Nat.{◌*◌, ◌≤◌}
use Rattle.shared.specs.Lent.{tally}
use Rattle.text.specs.Inner.Puts.{Puts}
use Rattle.lines.specs.Inner.Telling.{tallied}
use Rattle.lines.proofs.line.put_lines.Given as goal

abbrev pub invariant-loop-s : goal.invariant-loop-s
invariant-loop-s l = (l.at ≤ l.s * 32) × Puts (tallied l.s (tally l.outcomes l.codes l.steps)) 0 l.initial.out l.out l.at
