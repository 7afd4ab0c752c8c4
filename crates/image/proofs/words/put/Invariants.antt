-- `put` meets its contract. The loop's invariant: the i bytes that are left, stored in front of those stored already, make all.
use mathlib.Core.Path.{◌≡◌}
use Prim.Native.Nat.{◌≤◌}
use lib.ListN.{length}
use lib.Seq.{sets}
use Rattle.image.specs.Term.{bytes_of}
use Rattle.image.proofs.words.put.Given as goal

abbrev pub invariant-loop-i : goal.invariant-loop-i
invariant-loop-i l = (l.i ≤ l.width) × ((length l.out ≡ length l.initial.out) × (sets l.out l.at (bytes_of l.i l.rest) ≡ sets l.initial.out l.at (bytes_of l.width l.w)))
