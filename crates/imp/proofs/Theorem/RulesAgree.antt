-- "Agreement in 3 is over 2's rules.": in each setting of the set, what Figure 5.8 derives is what Figure 4.3, or the rules of a cut, derive of the
-- routine configured for it; in every other it leaves the numbers as given, idle, 0 steps.
-- The idea: both figures derive just what the runs give, and the runs agree.
use Rattle.std.specs.Prelude.{◌≡◌, ℕ, ◌<◌, ◌≤◌, true, false, ◌↔◌}
use Rattle.std.proofs.Common.{sym, ◌∙◌}
use Rattle.std.proofs.Math.Path.{ap}
use Rattle.imp.specs.Condition.{Condition}
use Rattle.imp.specs.Routine.{Statement}
use Rattle.imp.specs.Configure.{configure}
use Rattle.imp.specs.State.{Numbers, idle, out, State, state}
use Rattle.imp.specs.Plain.{plain_run}
use Rattle.imp.specs.Shared.{Settings, Shared, shared_run, Below}
use Rattle.imp.specs.Rules.Variational.{World, at_start, conf, seen}
use Rattle.imp.specs.Rules.Figure43.{Context, •, outcome_of, S⇓}
use Rattle.imp.specs.Rules.CutOff.{C⇓}
use Rattle.imp.specs.Rules.Figure58.{⇓V, Vimp}
use Rattle.imp.proofs.Theorem.Agreement.{agreement, outside_keeps}
use Rattle.imp.proofs.Theorem.ImpStatements.{run_is_derived, run_is_cut}
use Rattle.imp.proofs.Theorem.VimpStatements.{derived_is_shared}

-- Y is a world that Figure 5.8 derives of t for the set D from the given numbers, and s is a setting
module _ (N b : ℕ) (D : Settings) (below : Below N D) (t : Statement Condition) (numbers : ℕ → Numbers) (Y : World)
    (d : Vimp N b ⇓V D (at_start numbers) t Y) (s : ℕ) where
  shows : conf D Y s ≡ (shared_run N b t D numbers).at s
  unfolding seen
  shows = ap (λ (Σ : Shared). Σ.at s) (derived_is_shared N b D below t numbers Y d)

  ends : D s ≡ true → conf D Y s ≡ plain_run b (configure s t) (numbers s)
  ends i = shows ∙ agreement N b t D numbers s (below s i) i

  -- Y configures to E', S' and k steps exactly when Figure 4.3 derives these of the configured routine, with k within the budget
  pub rules_agree : D s ≡ true → (E' : Context) (S' : Numbers) (k : ℕ)
      → (conf D Y s ≡ state S' (outcome_of E') k) ↔ (S⇓ • (numbers s) (configure s t) E' S' k × (k ≤ b))
  rules_agree i E' S' k =
      let r = run_is_derived b (configure s t) (numbers s) E' S' k in (λ e. r.0 (sym (ends i) ∙ e), λ p. ends i ∙ r.1 p)

  -- and to out, S' and k steps exactly when the configured routine is cut off with S', and k is the whole budget
  pub cuts_agree : D s ≡ true → (S' : Numbers) (k : ℕ) → (conf D Y s ≡ state S' out k) ↔ (C⇓ (numbers s) (configure s t) S' b × (k ≡ b))
  cuts_agree i S' k =
      let r = run_is_cut b (configure s t) (numbers s) S' k in (λ e. r.0 (sym (ends i) ∙ e), λ p. ends i ∙ r.1 p)

  -- "outside the set nothing changes and the outcome is idle"
  pub rules_keep : s < N → D s ≡ false
      → (let end : State = conf D Y s in
      (end.numbers ≡ numbers s) × (end.outcome ≡ idle) × (end.steps ≡ 0))
  rules_keep h i = rw shows (outside_keeps N b t D numbers s h i)
