-- `imp::sum` meets its contract: the bits of a sum are the sum of the bits, modulo 2 ^ 32.
use Rattle.std.proofs.Common.{sym, ap, ◌∙◌, arith}
use Rattle.imp.specs.Numbers.{signed32, wrap}
use Rattle.imp.proofs.Theorem.Wrap.{signed_is, low_is, low_sum}
use Rattle.imp.proofs.sum.Goals as goal

pub returns : goal.returns
unfolding wrap
returns c =
    let a = c.args.a in
    let b = c.args.b in
    sym (signed_is _) ∙ ap signed32 (omega (arith, low_sum a b, low_is a c.ranges.a, low_is b c.ranges.b))
