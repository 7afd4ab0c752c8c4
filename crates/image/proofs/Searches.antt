-- A loop that looks for the lowest bad number below n, one turn for each number: its invariant, and what each way out of it has found.
use mathlib.Core.Path.{◌≡◌}
use mathlib.Core.Bool.{Bool, true, false}
use Prim.Native.Nat.{ℕ, ◌+◌, ◌≤◌, ◌<◌}
use native.Mathlib.Omega.{arith}
use borrow.Author.Count.{below_none, below_more}
use Rattle.image.specs.Rows.{lowest}
use Rattle.image.proofs.Theorem.Lowest.{lowest_found, lowest_none}

-- the numbers below k are passed, and none of them is bad
pub record Passed (n : ℕ) (bad : ℕ → Bool) (k : ℕ) : Type 0 where
  pub within : k ≤ n
  pub good : (j : ℕ) → j < k → bad j ≡ false

pub begins : {n : ℕ} {bad : ℕ → Bool} → Passed n bad 0
begins = record { within = omega arith; good = below_none _ }

module _ {n : ℕ} {bad : ℕ → Bool} {k : ℕ} (passed : Passed n bad k) where
  pub goes_on : k < n → bad k ≡ false → Passed n bad (k + 1)
  goes_on h e = record { within = omega arith; good = below_more (λ j. bad j ≡ false) k passed.good e }

  pub finds : k < n → bad k ≡ true → k ≡ lowest n bad
  finds h e = lowest_found n bad k h passed.good e

  pub ends : n ≤ k → k ≡ lowest n bad
  ends h = omega (arith, passed.within, lowest_none n bad (λ j below. passed.good j (omega arith)))
