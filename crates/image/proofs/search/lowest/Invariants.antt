-- `lowest` meets its contract: no number that the loop has passed is bad.
use Rattle.std.proofs.Common.{◌≡◌, ◌<◌, ℕ, Bool}
use Rattle.image.proofs.Searches.{Passed}
use Rattle.image.proofs.search.lowest.Given as goal

abbrev pub invariant-loop-k : goal.invariant-loop-k
invariant-loop-k g l = (is_bad : ℕ → Bool) → ((k : ℕ) (r : Bool) → k < l.n → goal.F-post g l.bad k r → r ≡ is_bad k) → Passed l.n is_bad l.k
