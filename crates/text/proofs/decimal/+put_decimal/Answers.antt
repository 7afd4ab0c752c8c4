-- The proof of the cycle of calls {put_decimal}: it ends, for a tenth of n is below n where n is ten or above, and its digits are those of a tenth of n and the last.
use mathlib.Core.Path.{sym, ◌∙◌, ap}
use mathlib.Core.List.{[], ◌∷◌, ◌++◌}
use Prim.Native.Nat.{◌/◌}
use native.Mathlib.Omega.{arith}
use lib.ListN.{length}
use Rattle.text.specs.Decimal.{decimal}
use Rattle.text.specs.Theorem.Decimals.{first, next, longer}
use Rattle.text.proofs.Putting.{then, byte, same}
use Rattle.text.proofs.decimal.+put_decimal.Goals as goal

pub bounds-out-at : goal.bounds-out-at
bounds-out-at t c =
    omega (arith, c.requires, ap length (first c.args.n c.if-n-lt10.true))

pub overflow_add-result : goal.overflow_add-result
overflow_add-result t c =
    omega (arith, c.requires, ap length (first c.args.n c.if-n-lt10.true))

pub returns-then-n-lt10 : goal.returns-then-n-lt10
returns-then-n-lt10 t c =
    same (ap (λ d. d ∷ []) c.digit.ensures ∙ sym (first c.args.n c.if-n-lt10.true)) (byte c.digit.result c.args.at c.args.out.now (bounds-out-at t c))

pub put_decimal-last-requires : goal.put_decimal-last-requires
put_decimal-last-requires t c =
    (omega (arith, c.decreases), omega (arith, longer c.args.n (omega arith) (omega arith), c.requires))

pub bounds-out-last : goal.bounds-out-last
bounds-out-last t c =
    let high = c.put_decimal-last in
    omega (arith, longer c.args.n (omega arith) (omega arith), c.requires, high.ensures.next_is, high.auto.out)

pub overflow_add-result-2 : goal.overflow_add-result-2
overflow_add-result-2 t c =
    let high = c.put_decimal-last in
    omega (arith, longer c.args.n (omega arith) (omega arith), c.requires, high.ensures.next_is, high.auto.out)

pub returns : goal.returns
returns t c =
    let high = c.put_decimal-last in
    same (ap (λ d. decimal (c.args.n / 10) ++ (d ∷ [])) c.digit-2.ensures ∙ sym (next c.args.n (omega arith) (omega arith))) (then high.ensures (byte c.digit-2.result high.result high.new.out (bounds-out-last t c)))
