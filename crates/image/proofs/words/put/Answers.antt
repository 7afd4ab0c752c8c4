-- `put` meets its contract. The loop's invariant: the i bytes that are left, stored in front of those stored already, make all.
use mathlib.Core.Path.{◌≡◌, ◌∙◌, ap}
use Prim.Native.Nat.{◌-◌}
use native.Mathlib.Omega.{arith}
use lib.ListN.{length-set}
use lib.Seq.{sets}
use Rattle.image.specs.Term.{bytes_of}
use Rattle.image.proofs.Stores.{last_first}
use Rattle.image.proofs.words.put.Goals as goal

pub loop-i-preserved : goal.loop-i-preserved
loop-i-preserved c =
    let loop = c.loop-i in
    let at = c.args.at in (
      omega arith,
      (
        simp length-set loop.invariant.1.0,
        last_first loop.out at (loop.i - 1) loop.rest ∙ ap (λ n. sets loop.out at (bytes_of n loop.rest)) (omega arith) ∙ loop.invariant.1.1,
      ),
    )

pub returns : goal.returns
unfolding bytes_of
returns c =
    let loop = c.loop-i in
    let at = c.args.at in
    let done : 0 ≡ loop.i = omega arith in
    ap (λ n. sets loop.out at (bytes_of n loop.rest)) done ∙ loop.invariant.1.1
