-- "One hall at once" (document 02, C-18): "It answers exactly as the two in turn with space enough." Of the calls, for every input and whatever keeps their
-- promises. That it holds is `one_hall` (proofs/Theorem/OneHall).
use Rattle.std.specs.Prelude.{◌≡◌, ℕ, ◌≤◌, length, Result}
use Rattle.imp.specs.State.{Numbers}
use Rattle.image.specs.Check.{answer_of}
use Rattle.image.specs.declared.refusals.Refusal.{Refusal}
use Rattle.image.specs.Bytes.{Bytes}
use Rattle.image.specs.Rows.{refused}
use Rattle.plain.specs.declared.progress.Progress.{Progress}
use Rattle.plain.specs.PlainRun.{hall_rows, RunsIn}
use Rattle.acceptance.specs.InTurn.{Enough, InTurn}

pub record OneHall (l : Bytes) (s budget : ℕ) (ns : Numbers) : Type 0 where
  -- the answer and the numbers are those of the two in turn, refused or carried out
  pub as_in_turn : (ns' ns'' : Numbers) (r r' : Result Progress Refusal) → RunsIn s (hall_rows l s budget (length ns)) l budget ns ns' r → InTurn l s budget ns ns'' r'
      → (r ≡ r') × (ns' ≡ ns'')
  -- "13 and 14 do not occur here, which is to be shown": not in the two calls in turn
  pub no_choice_held : (ns' : Numbers) (r : Result Progress Refusal) → InTurn l s budget ns ns' r → (p : ℕ) → answer_of r ≡ refused 13 p → ⊥
  pub no_space_short : (ns' : Numbers) (r : Result Progress Refusal) → InTurn l s budget ns ns' r → (p : ℕ) → answer_of r ≡ refused 14 p → ⊥
  -- space for the longest image is always enough
  pub space_enough : (out : Bytes) → 8200 ≤ length out → Enough l s out
