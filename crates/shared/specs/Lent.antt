-- What is lent to a shared run, and what of it is each setting's own (document 01, "What is lent and what comes back").
use Rattle.std.specs.Prelude.{ℕ, ◌*◌, List, ℤ, pos, get_or, take, drop}
use Rattle.imp.specs.State.{Numbers}
use Rattle.plain.specs.declared.progress.Progress.{Progress}

-- "N outcomes, N codes and N step counts"
pub record Tally : Type 0 where
  pub outcomes : List ℕ
  pub codes : List ℤ
  pub steps : List ℕ

abbrev pub tally : List ℕ → List ℤ → List ℕ → Tally
tally os cs ts = record { outcomes = os; codes = cs; steps = ts }

-- how far setting s is
unfoldable pub progress : Tally → ℕ → Progress
progress T s = record { outcome = get_or T.outcomes s 0; code = get_or T.codes s (pos 0); steps = get_or T.steps s 0 }

-- "setting s has the sixteen from 16s"
unfoldable pub part : List ℤ → ℕ → Numbers
part xs s = take 16 (drop (s * 16) xs)
