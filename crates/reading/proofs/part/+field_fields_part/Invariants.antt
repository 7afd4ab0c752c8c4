-- A part is read in the order in which it is written; bytes left fall with each part that begins, for its first token has been read.
use Prim.Native.Nat.{◌+◌, ◌-◌, ◌*◌}
use lib.ListN.{length}
use Rattle.reading.proofs.part.+field_fields_part.Given as goal

abbrev pub decreases-field : goal.decreases-field
decreases-field l = 4 * (length l.text.now - l.c.at) + 2

abbrev pub decreases-fields : goal.decreases-fields
decreases-fields l = 4 * (length l.text.now - l.c.at) + 3

abbrev pub decreases-part : goal.decreases-part
decreases-part l = 4 * (length l.text.now - l.c.at) + 1
