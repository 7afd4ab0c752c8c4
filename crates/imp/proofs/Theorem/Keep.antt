-- What a plain run keeps: a relation between a state and a later one holds over every run, if it does over each of the changes that a run is made of.
use Rattle.std.specs.Prelude.{◌≡◌, ℕ, zero, suc, ◌≤◌, Bool, true, false, cond, length, refl}
use Rattle.std.proofs.Common.{◌∙◌, le_refl, le_trans, arith, length-set}
use Rattle.imp.specs.Routine.{Arithmetic, Statement, skip, assign, sequence, if, while, throw, try, choice}
use Rattle.imp.specs.State as State
use Rattle.imp.specs.State.{branch, State, in_fault, code, store, ready, enter}
use Rattle.imp.specs.Plain.{value, truth, begun, turns, handled, run}

-- A holds of each expression of a statement whose value is assigned or thrown
abbrev pub Every : {C : Type 0} → (Arithmetic C → Type 0) → Statement C → Type 0
Every A skip = Unit {0}
Every A (assign v a) = A a
Every A (sequence x y) = Every A x × Every A y
Every A (if e x y) = Every A x × Every A y
Every A (while e x) = Every A x
Every A (throw a) = A a
Every A (try x v y) = Every A x × Every A y
Every A (choice c x y) = Every A x × Every A y

-- the changes
pub record Kept (b : ℕ) (A : Arithmetic ⊥ → Type 0) (R : State → State → Type 0) : Type 0 where
  pub none : (σ : State) → R σ σ
  pub then : {σ σ' σ'' : State} → R σ σ' → R σ' σ'' → R σ σ''
  pub entered : (σ : State) → R σ (enter b σ)
  pub stored : (v : ℕ) (a : Arithmetic ⊥) → A a → (σ : State) → R σ (store v (value a σ.numbers) σ)
  pub thrown : (a : Arithmetic ⊥) → A a → (σ : State) → R σ (State.thrown (value a σ.numbers) σ)
  pub taken : (v : ℕ) (σ : State) → R σ (State.taken v σ)

module _ {b : ℕ} {A : Arithmetic ⊥ → Type 0} {R : State → State → Type 0} (κ : Kept b A R) where
  branch_keeps : (u : Bool) (f g : State → State) → ((σ : State) → R σ (f σ)) → ((σ : State) → R σ (g σ)) → (σ : State) → R σ (branch u f g σ)
  branch_keeps true f g h k σ = h σ
  branch_keeps false f g h k σ = k σ

  begun_keeps : (f : State → State) → ((σ : State) → R σ (f σ)) → (σ : State) → R σ (begun b f σ)
  unfolding begun
  begun_keeps f h σ = κ.then (κ.entered σ) (branch_keeps (ready b σ) f (λ σ'. σ') h κ.none (enter b σ))

  turns_keeps : (n : ℕ) (t : State → Bool) (f : State → State) → ((σ : State) → R σ (f σ)) → (σ : State) → R σ (turns n b t f σ)
  unfolding turns
  turns_keeps zero t f h = κ.none
  turns_keeps (suc n) t f h = begun_keeps _ λ σ. branch_keeps (t σ) _ _ (λ σ'. κ.then (h σ') (turns_keeps n t f h (f σ'))) κ.none σ

  pub run_keeps : (t : Statement ⊥) → Every A t → (σ : State) → R σ (run b t σ)
  unfolding run handled
  run_keeps skip w = begun_keeps _ κ.none
  run_keeps (assign v a) w = begun_keeps _ λ σ. κ.stored v a w σ
  run_keeps (sequence x y) w = begun_keeps _ λ σ. κ.then (run_keeps x w.0 σ) (run_keeps y w.1 _)
  run_keeps (if e x y) w = begun_keeps _ λ σ. branch_keeps (truth e σ.numbers) _ _ (run_keeps x w.0) (run_keeps y w.1) σ
  run_keeps (while e x) w = turns_keeps (suc b) _ _ (run_keeps x w)
  run_keeps (throw a) w = begun_keeps _ λ σ. κ.thrown a w σ
  run_keeps (try x v y) w = begun_keeps _ λ σ. κ.then (run_keeps x w.0 σ)
      (branch_keeps (in_fault (run b x σ).outcome) _ _ (λ σ'. κ.then (κ.taken v σ') (run_keeps y w.1 _)) κ.none (run b x σ))
  run_keeps (choice c x y) w = absurd c

-- what asks nothing of the expressions holds of every statement
abbrev pub Whatever : Arithmetic ⊥ → Type 0
Whatever a = Unit {0}

pub whatever : (t : Statement ⊥) → Every Whatever t
whatever skip = tt
whatever (assign v a) = tt
whatever (sequence x y) = (whatever x, whatever y)
whatever (if e x y) = (whatever x, whatever y)
whatever (while e x) = whatever x
whatever (throw a) = tt
whatever (try x v y) = (whatever x, whatever y)
whatever (choice c x y) = absurd c

-- ---- steps never fall

up : (t : Bool) (k : ℕ) → k ≤ cond t (suc k) k
up true k = omega arith
up false k = le_refl k

pub grows : (b : ℕ) (t : Statement ⊥) (σ : State) → σ.steps ≤ (run b t σ).steps
unfolding store State.thrown State.taken enter
grows b t = run_keeps {A = Whatever} {R = λ σ σ'. σ.steps ≤ σ'.steps} (record {
  none = λ σ. le_refl _;
  then = λ h k. le_trans h k;
  entered = λ σ. up (ready b σ) σ.steps;
  stored = λ v a w σ. le_refl _;
  thrown = λ a w σ. le_refl _;
  taken = λ v σ. le_refl _;
}) t (whatever t)

-- ---- the number of variables stays

pub length_kept : (b : ℕ) (t : Statement ⊥) (σ : State) → length (run b t σ).numbers ≡ length σ.numbers
unfolding store State.thrown State.taken enter
length_kept b t = run_keeps {A = Whatever} {R = λ σ σ'. length σ'.numbers ≡ length σ.numbers} (record {
  none = λ σ. refl;
  then = λ h k. k ∙ h;
  entered = λ σ. refl;
  stored = λ v a w σ. length-set σ.numbers v (value a σ.numbers);
  thrown = λ a w σ. refl;
  taken = λ v σ. length-set σ.numbers v (code σ.outcome);
}) t (whatever t)
