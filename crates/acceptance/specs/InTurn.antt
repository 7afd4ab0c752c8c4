-- `configure`, and `plain_run` of the bytes that it wrote: the two calls that one hall's joins (document 02, C-18).
use Rattle.std.specs.Prelude.{◌≡◌, ℕ, ◌≤◌, length, take, Result, Ok, Err}
use Rattle.imp.specs.State.{Numbers}
use Rattle.image.specs.declared.refusals.Refusal.{Refusal}
use Rattle.image.specs.Bytes.{Bytes}
use Rattle.image.specs.Accepted.{Accepted}
use Rattle.configure.specs.Configured.{configured, configure_rows, Configures}
use Rattle.plain.specs.declared.progress.Progress.{Progress}
use Rattle.plain.specs.PlainRun.{plain_rows, Runs}

-- "with space enough": for the configured image, where there is one
abbrev pub Enough : Bytes → ℕ → Bytes → Type 0
Enough l s out = Accepted l → length (configured l s) ≤ length out

-- the two in turn, from the numbers ns, answered r and left ns'
pub data InTurn (l : Bytes) (s budget : ℕ) (ns ns' : Numbers) (r : Result Progress Refusal) : Type 0 where
  -- configuring was refused: so is the whole, and nothing was run
  stopped : (out out' : Bytes) (q : Refusal) → Enough l s out → Configures (configure_rows l s (length out)) l s out out' (Err q)
      → r ≡ Err q → ns' ≡ ns → InTurn l s budget ns ns' r
  -- configuring wrote n bytes, and these were run
  went_on : (out out' : Bytes) (n : ℕ) → Configures (configure_rows l s (length out)) l s out out' (Ok n)
      → Runs (plain_rows (take n out') budget (length ns)) (take n out') budget ns ns' r → InTurn l s budget ns ns' r
