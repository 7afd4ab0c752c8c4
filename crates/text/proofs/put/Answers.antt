-- `put` meets its contract: the part of `out` from `at` on becomes the text.
use Rattle.std.proofs.Common.{refl}
use Rattle.text.proofs.Putting.{part}
use Rattle.text.proofs.put.Goals as goal

pub returns : goal.returns
returns c = record {
  fits = c.requires;
  next_is = refl;
  out_is = part c.args.text.now c.args.out.now c.args.at c.requires c.copy_from_slice.ensures.after;
}
