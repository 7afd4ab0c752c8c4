-- `imp::signed` meets its contract: the machine reads 32 bits as signed as `signed32` does.
use Rattle.std.proofs.Common.{sym, ◌∙◌, to_z-of_z, w32}
use Rattle.imp.proofs.Theorem.Wrap.{signed_is}
use Rattle.imp.proofs.signed.Goals as goal

pub returns : goal.returns
returns c = to_z-of_z {w = w32} (record { sfits = c.cast_signed.type_inv }) ∙ c.cast_signed.ensures ∙ sym (signed_is c.args.n)
