-- `imp::bits` meets its contract: the machine's bits of a number of 32 bits are `low32` of it.
use Rattle.std.proofs.Common.{sym, ap, ◌∙◌, to_z-of_z, of_z, w32}
use Rattle.imp.proofs.Theorem.Wrap.{low_is}
use Rattle.imp.proofs.bits.Goals as goal

pub returns : goal.returns
returns c = c.cast_unsigned.ensures ∙ ap (of_z w32) (to_z-of_z c.ranges.a) ∙ sym (low_is c.args.a c.ranges.a)
