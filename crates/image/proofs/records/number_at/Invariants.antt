-- `number_at` meets its contract: after i bytes `v` is the number that they make, and fewer than eight bytes leave room for one more.
use Rattle.std.proofs.Common.{◌≡◌}
use Rattle.image.specs.Bytes.{number_at}
use Rattle.image.proofs.records.number_at.Given as goal

abbrev pub invariant-loop-byte : goal.invariant-loop-byte
invariant-loop-byte l = l.v ≡ number_at l.image l.at l.byte-index
