-- What is lent to a shared run as the state of each setting, and what stays true of it.
use Rattle.std.specs.Prelude.{◌≡◌, ℕ, ◌*◌, List, ℤ, length, set}
use Rattle.imp.specs.State.{State}
use Rattle.imp.specs.Shared.{Shared}
use Rattle.plain.specs.declared.progress.Progress.{Progress}
use Rattle.plain.specs.Inner.Progress.{state_of, Proper}
use Rattle.shared.specs.Lent.{Tally, tally, progress, part}

-- setting s as far as p says
unfoldable pub put : ℕ → Progress → Tally → Tally
put s p T = tally (set T.outcomes s p.outcome) (set T.codes s p.code) (set T.steps s p.steps)

-- the state of each setting, and of all with the visits so far
unfoldable pub own : List ℤ → Tally → ℕ → State
own xs T s = state_of (progress T s) (part xs s)

unfoldable pub as_shared : List ℤ → Tally → ℕ → Shared
as_shared xs T visits = record { at = own xs T; visits = visits }

-- N of each, and in each place the numbers of an outcome
pub record Tallied (N : ℕ) (T : Tally) : Type 0 where
  pub outcomes_length : length T.outcomes ≡ N
  pub codes_length : length T.codes ≡ N
  pub steps_length : length T.steps ≡ N
  pub proper : (s : ℕ) → Proper (progress T s).outcome (progress T s).code

-- "a store of 16N numbers", and N of each of the others
pub record Measured (N : ℕ) (xs : List ℤ) (T : Tally) : Type 0 where
  pub store_length : length xs ≡ N * 16
  pub tallied : Tallied N T
