-- A change that is made in one setting, if it is of a set.
use Rattle.std.specs.Prelude.{◌≡◌, ℕ, ◌&&◌, cond, eqb}
use Rattle.imp.specs.State.{State}
use Rattle.imp.specs.Shared.{Settings}

pub record Only (s : ℕ) (S : Settings) (f : ℕ → State → State) (at at' : ℕ → State) : Type 0 where
  pub changed : (t : ℕ) → at' t ≡ cond (S t && eqb t s) (f t (at t)) (at t)
