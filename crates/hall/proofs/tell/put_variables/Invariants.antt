-- `put_variables` meets its contract: before each turn the lines of the first v variables are written, and none is longer than 16 bytes.
use Prim.Native.Nat.{◌+◌, ◌*◌, ◌≤◌}
use Rattle.text.specs.Inner.Puts.{Puts}
use Rattle.hall.specs.Text.{variable_lines}
use Rattle.hall.proofs.tell.put_variables.Given as goal

abbrev pub invariant-loop-v : goal.invariant-loop-v
invariant-loop-v l = (l.end ≤ l.at + l.v * 16) × Puts (variable_lines l.v l.numbers) l.at l.initial.out l.out l.end
