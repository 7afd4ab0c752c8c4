-- Every plain run ends as Figure 4.3 derives within the budget, or as a cut leaves it, and in one way only: `derived_or_cut` in the terms of the calls.
use Rattle.std.specs.Prelude.{◌≡◌, refl, ◌⊎◌, ℕ}
use Rattle.std.proofs.Math.Path.{sym, subst}
use Rattle.std.proofs.Common.{◌∙◌, ap, inl, inr}
use Rattle.imp.specs.Routine.{Statement}
use Rattle.imp.specs.State.{Numbers, State}
use Rattle.imp.specs.Plain.{plain_run}
use Rattle.imp.proofs.Theorem.ImpStatements.{run_is_derived, run_is_cut}
use Rattle.imp.proofs.Theorem.DerivedOrCut.{Derived, Cut, derived_or_cut}
use Rattle.plain.specs.declared.progress.Progress.{Progress}
use Rattle.plain.specs.PlainRun.{progress_of}
use Rattle.acceptance.specs.ByRules.{ended, ByImp, derived, cut}

module _ (b : ℕ) (t : Statement ⊥) (ns : Numbers) where
  abbrev end : State
  end = plain_run b t ns

  abbrev Ends : State → Type 0
  Ends σ = ByImp b t ns σ.numbers (progress_of σ)

  pub imp_ends : Ends end
  unfolding progress_of ended
  imp_ends = go (derived_or_cut b t ns)
    where
      go : Derived b t ns ⊎ Cut b t ns → Ends end
      go (inl d) = subst Ends (sym d.ends) (derived d.context d.steps d.by_rules d.within refl)
      go (inr c) = subst Ends (sym c.ends) (cut c.by_rules refl)

  -- what the rules say is what the run is
  pub imp_only : {ns' : Numbers} {p : Progress} → ByImp b t ns ns' p → (ns' ≡ end.numbers) × (p ≡ progress_of end)
  unfolding progress_of ended
  imp_only {ns'} (derived E k d h e) =
      let q = (run_is_derived b t ns E ns' k).1 (d, h) in
      (sym (ap (λ (σ : State). σ.numbers) q), e ∙ sym (ap progress_of q))
  imp_only {ns'} (cut c e) =
      let q = (run_is_cut b t ns ns' b).1 (c, refl) in
      (sym (ap (λ (σ : State). σ.numbers) q), e ∙ sym (ap progress_of q))
