-- A while of the plain run is its test, its body and the while again: the bound by which the definition recurses is never met.
-- The idea: each test costs a step, so two bounds that are both no less than what is left of the budget give the same run.
use Rattle.std.specs.Prelude.{◌≡◌, ℕ, zero, suc, ◌+◌, ◌<◌, ◌≤◌, Bool, true, false, refl}
use Rattle.std.proofs.Common.{sym, ◌∙◌, arith}
use Rattle.imp.specs.Routine.{Boolean, Statement, while}
use Rattle.imp.specs.State.{branch, State, ready, enter}
use Rattle.imp.specs.Plain.{truth, begun, turns, run}
use Rattle.imp.proofs.Theorem.Begin.{begun_yes, begun_no, ready_lt, enter_steps}
use Rattle.imp.proofs.Theorem.Keep.{grows}

-- two acts that do the same once begun
begun_same : (b : ℕ) (f g : State → State) (σ : State) → (ready b σ ≡ true → f (enter b σ) ≡ g (enter b σ)) → begun b f σ ≡ begun b g σ
begun_same b f g σ e = go (ready b σ) refl
  where
    go : (r : Bool) → ready b σ ≡ r → begun b f σ ≡ begun b g σ
    go true p = begun_yes b f σ p ∙ e p ∙ sym (begun_yes b g σ p)
    go false p = begun_no b f σ p ∙ sym (begun_no b g σ p)

again : (t : Bool) (g h i : State → State) (x : State) → g x ≡ h x → branch t g i x ≡ branch t h i x
again true g h i x e = e
again false g h i x e = refl

-- nothing is begun with no budget left
never : {A : Type 0} (b : ℕ) (σ : State) → b ≤ σ.steps → ready b σ ≡ true → A
never b σ h r = let z : ⊥ = omega (arith, ready_lt b σ r) in absurd z

-- what is done after a beginning has a step behind it
later : (b : ℕ) (σ : State) (g : State → State) → ((σ : State) → σ.steps ≤ (g σ).steps) → ready b σ ≡ true → σ.steps < (g (enter b σ)).steps
later b σ g a r = omega (arith, a (enter b σ), enter_steps b σ r)

module _ (b : ℕ) (test : State → Bool) (g : State → State) (a : (σ : State) → σ.steps ≤ (g σ).steps) where
  turns_same : (n m : ℕ) (σ : State) → b ≤ n + σ.steps → b ≤ m + σ.steps → turns (suc n) b test g σ ≡ turns (suc m) b test g σ
  unfolding turns
  turns_same zero m σ h k = begun_same b _ _ σ (never b σ (omega arith))
  turns_same (suc n) zero σ h k = begun_same b _ _ σ (never b σ (omega arith))
  turns_same (suc n) (suc m) σ h k = begun_same b _ _ σ λ r.
      again (test (enter b σ)) _ _ _ _ (turns_same n m _ (omega (arith, later b σ g a r)) (omega (arith, later b σ g a r)))

pub while_again : (b : ℕ) (e : Boolean ⊥) (x : Statement ⊥) (σ : State)
    → run b (while e x) σ ≡ begun b (λ σ'. branch (truth e σ'.numbers) (λ σ''. run b (while e x) (run b x σ'')) (λ σ''. σ'') σ') σ
unfolding run turns
while_again zero e x σ = begun_same zero _ _ σ (never zero σ (omega arith))
while_again (suc c) e x σ = begun_same (suc c) _ _ σ λ r.
    again (truth e (enter (suc c) σ).numbers) _ _ _ _
    (turns_same (suc c) (λ σ'. truth e σ'.numbers) (run (suc c) x) (grows (suc c) x) c (suc c) _ (omega (arith, later (suc c) σ (run (suc c) x) (grows (suc c) x) r)) (omega arith))
