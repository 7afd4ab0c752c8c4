-- What the thesis's rules say of a run's end, in the terms of the calls: how far a setting is, and its numbers.
use Rattle.std.specs.Prelude.{◌≡◌, ℕ, ◌≤◌}
use Rattle.imp.specs.Routine.{Statement}
use Rattle.imp.specs.State.{Numbers, Outcome, out, outcome_number, code}
use Rattle.imp.specs.Shared.{Settings}
use Rattle.imp.specs.Rules.Variational.{World, outcome_in}
use Rattle.imp.specs.Rules.Figure43.{Context, •, outcome_of, S⇓}
use Rattle.imp.specs.Rules.CutOff.{C⇓}
use Rattle.plain.specs.declared.progress.Progress.{Progress}

-- "outcome, code, steps" of a run that has ended so
unfoldable pub ended : Outcome → ℕ → Progress
ended o k = record { outcome = outcome_number o; code = code o; steps = k }

-- the same of setting s, as the world Y of a run for the set D says it
abbrev pub says : Settings → World → ℕ → Progress
says D Y s = ended (outcome_in D Y.errors Y.counts s) (Y.counts.steps s)

-- t, run from ns with budget b, leaves ns' and ends as p says
pub data ByImp (b : ℕ) (t : Statement ⊥) (ns ns' : Numbers) (p : Progress) : Type 0 where
  -- by Figure 4.3, with k statements begun, within the budget
  derived : (E : Context) (k : ℕ) → S⇓ • ns t E ns' k → k ≤ b → p ≡ ended (outcome_of E) k → ByImp b t ns ns' p
  -- the budget cuts the run off, and it is all used
  cut : C⇓ ns t ns' b → p ≡ ended out b → ByImp b t ns ns' p
