-- `lowest` meets its contract: no number that the loop has passed is bad.
use Rattle.std.proofs.Common.{sym, ◌∙◌, arith}
use Rattle.image.proofs.Searches.{goes_on, finds, ends}
use Rattle.image.proofs.search.lowest.Goals as goal

pub returns-then-bad : goal.returns-then-bad
returns-then-bad g c is_bad told =
    finds (c.loop-k.invariant is_bad told) (omega arith) (sym (told _ _ (omega arith) c.bad.ensures) ∙ c.if-bad.true)

pub loop-k-preserved : goal.loop-k-preserved
loop-k-preserved g c is_bad told =
    goes_on (c.loop-k.invariant is_bad told) (omega arith) (sym (told _ _ (omega arith) c.bad.ensures) ∙ c.if-bad.false)

pub returns : goal.returns
returns g c is_bad told =
    let passed = c.loop-k.invariant is_bad told in
    omega (arith, passed.within, ends passed c.loop-k-test.false)
