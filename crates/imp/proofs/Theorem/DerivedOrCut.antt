-- Every plain run is derived or cut (condition 2): for every budget, routine and numbers Figure 4.3 derives its end within the budget, or the rules of a
-- cut do; never both, and never is its outcome idle. What a cut leaves is one thing, as `derived_unique` says of Figure 4.3.
use Rattle.std.specs.Prelude.{◌≡◌, ℕ, ◌≤◌, ◌⊎◌, ◌≢◌}
use Rattle.std.proofs.Math.Path.{refl}
use Rattle.std.proofs.Common.{sym, ◌∙◌, ap}
use Rattle.std.proofs.Math.Logic.{inl, inr}
use native.Mathlib.Omega.{arith}
use Rattle.imp.specs.Routine.{Statement}
use Rattle.imp.specs.State.{Numbers, idle, out, State, fresh, state}
use Rattle.imp.specs.Plain.{plain_run}
use Rattle.imp.specs.Rules.Figure43.{Context, •, error, outcome_of, S⇓}
use Rattle.imp.specs.Rules.CutOff.{C⇓}
use Rattle.imp.proofs.Theorem.ImpStatements.{Ended, by_rule, cut_off, complete, not_out, run_is_derived, run_is_cut}

-- the run ends as Figure 4.3 derives within the budget: in this error context, with these numbers and steps
pub record Derived (b : ℕ) (s : Statement ⊥) (S : Numbers) : Type 0 where
  pub context : Context
  pub leaves : Numbers
  pub steps : ℕ
  pub by_rules : S⇓ • S s context leaves steps
  pub within : steps ≤ b
  pub ends : plain_run b s S ≡ state leaves (outcome_of context) steps

-- the run is cut off: out, with these numbers, and its whole budget begun
pub record Cut (b : ℕ) (s : Statement ⊥) (S : Numbers) : Type 0 where
  pub leaves : Numbers
  pub by_rules : C⇓ S s leaves b
  pub ends : plain_run b s S ≡ state leaves out b

module _ (b : ℕ) (s : Statement ⊥) (S : Numbers) where
  pub derived_or_cut : Derived b s S ⊎ Cut b s S
  unfolding plain_run fresh
  derived_or_cut = go _ refl (complete b s S 0 (omega arith))
    where
      go : (σ : State) → plain_run b s S ≡ σ → Ended b s S 0 σ → Derived b s S ⊎ Cut b s S
      go σ e (by_rule E m {S'} {k} r q h) =
          let steps : k ≡ m = omega arith in
          inl (record { context = E; leaves = S'; steps = m; by_rules = rw steps at r; within = h; ends = e })
      go σ e (cut_off {S'} {r = j} r q) =
          let steps : j ≡ b = omega arith in
          inr (record { leaves = S'; by_rules = rw steps at r; ends = e })

  -- never both: what Figure 4.3 derives within the budget is not cut off by it
  pub not_both : {E' : Context} {S' S'' : Numbers} {k : ℕ} → S⇓ • S s E' S' k → k ≤ b → C⇓ S s S'' b → ⊥
  not_both {E'} {S'} {S''} {k} d h c =
      not_out E' (ap (λ (σ : State). σ.outcome) (sym ((run_is_derived b s S E' S' k).1 (d, h)) ∙ (run_is_cut b s S S'' b).1 (c, refl)))

  -- "Outcomes: 0 idle, 1 done, 2 fault, 3 out.": a plain run ends in one of the last three
  pub never_idle : (plain_run b s S).outcome ≡ idle → ⊥
  unfolding outcome_of
  never_idle e = go derived_or_cut
    where
      no_context : (E : Context) → outcome_of E ≢ idle
      no_context • p = let z : ◌≡◌ {A = ℕ} 0 1 = cc in omega arith
      no_context (error n) p = let z : ◌≡◌ {A = ℕ} 0 1 = cc in omega arith

      go : Derived b s S ⊎ Cut b s S → ⊥
      go (inl d) = no_context d.context (ap (λ (σ : State). σ.outcome) (sym d.ends) ∙ e)
      go (inr c) = let p : out ≡ idle = ap (λ (σ : State). σ.outcome) (sym c.ends) ∙ e in let z : ◌≡◌ {A = ℕ} 0 1 = cc in omega arith

-- what a cut leaves is one thing
pub cut_unique : {S S' S'' : Numbers} {s : Statement ⊥} {b : ℕ} → C⇓ S s S' b → C⇓ S s S'' b → S' ≡ S''
cut_unique {S} {S'} {S''} {s} {b} c c' =
    ap (λ (σ : State). σ.numbers) (sym ((run_is_cut b s S S' b).1 (c, refl)) ∙ (run_is_cut b s S S'' b).1 (c', refl))
