-- A while of the shared run is its test, its body and the while again, both for the settings where the test is true: the bound by which the
-- definition recurses is never met. The idea is that of `WhilePlain`, over all settings of the set at once.
use Rattle.std.specs.Prelude.{◌≡◌, ℕ, zero, suc, ◌+◌, ◌<◌, ◌≤◌, Bool, true, false, cond, refl}
use Rattle.std.proofs.Common.{sym, ◌∙◌, arith, le_refl}
use Rattle.imp.specs.Condition.{Condition}
use Rattle.imp.specs.Routine.{Boolean, Statement, while}
use Rattle.imp.specs.Configure.{configure}
use Rattle.imp.specs.State.{State, ready, enter}
use Rattle.imp.specs.Plain.{run}
use Rattle.imp.specs.Shared.{truth_in, Settings, any, Shared, for, visited, where_true, begun, turns, shared, steps_at}
use Rattle.imp.proofs.Theorem.Sets.{and_true, any_true}
use Rattle.imp.proofs.Theorem.Begin.{ready_lt, enter_steps}
use Rattle.imp.proofs.Theorem.Keep as Keep
use Rattle.imp.proofs.Theorem.Agreement.{agrees}

-- steps never fall
pub record Grows (N : ℕ) (f : Settings → Shared → Shared) : Type 0 where
  pub grows : (S : Settings) (Σ : Shared) (s : ℕ) → s < N → steps_at Σ s ≤ steps_at (f S Σ) s

pub shared_grows : (N b : ℕ) (t : Statement Condition) → Grows N (shared N b t)
shared_grows N b t = record { grows = λ S Σ s h. rw ((agrees N b s h t).agree S Σ, steps_at) (go s (S s) (Σ.at s)) }
  where
    go : (s : ℕ) (u : Bool) (σ : State) → σ.steps ≤ (cond u (run b (configure s t) σ) σ).steps
    go s true σ = Keep.grows b (configure s t) σ
    go s false σ = le_refl _

module _ (N b : ℕ) where
  -- the settings that a statement is begun for, and the state once it is begun
  unfoldable pub left : Settings → Shared → Settings
  left S Σ = where_true (λ s. ready b) S Σ

  unfoldable pub reached : Settings → Shared → Shared
  reached S Σ = visited (for S (λ s. enter b) Σ)

  -- a setting that is left had budget left, and has one step more
  pub left_in : (S : Settings) (Σ : Shared) (s : ℕ) → left S Σ s ≡ true → (S s ≡ true) × (ready b (Σ.at s) ≡ true)
  unfolding left where_true
  left_in S Σ s e = and_true (S s) (ready b (Σ.at s)) e

  left_steps : (S : Settings) (Σ : Shared) (s : ℕ) → left S Σ s ≡ true → steps_at (reached S Σ) s ≡ suc (steps_at Σ s)
  unfolding reached visited for
  left_steps S Σ s e = rw ((left_in S Σ s e).0, steps_at) (enter_steps b (Σ.at s) (left_in S Σ s e).1)

  -- begun for some, and for none
  pub begun_some : (f : Settings → Shared → Shared) (S : Settings) (Σ : Shared) → any N (left S Σ) ≡ true → begun N b f S Σ ≡ f (left S Σ) (reached S Σ)
  unfolding begun left reached
  begun_some f S Σ e = rw (e, begun)

  pub begun_none : (f : Settings → Shared → Shared) (S : Settings) (Σ : Shared) → any N (left S Σ) ≡ false → begun N b f S Σ ≡ for S (λ s. enter b) Σ
  unfolding begun left
  begun_none f S Σ e = rw (e, begun)

  begun_same : (f g : Settings → Shared → Shared) (S : Settings) (Σ : Shared)
      → (any N (left S Σ) ≡ true → f (left S Σ) (reached S Σ) ≡ g (left S Σ) (reached S Σ)) → begun N b f S Σ ≡ begun N b g S Σ
  begun_same f g S Σ h = go (any N (left S Σ)) refl
    where
      go : (u : Bool) → any N (left S Σ) ≡ u → begun N b f S Σ ≡ begun N b g S Σ
      go true e = begun_some f S Σ e ∙ h e ∙ sym (begun_some g S Σ e)
      go false e = begun_none f S Σ e ∙ sym (begun_none g S Σ e)

  -- n tests more are enough for the settings of S
  Enough : ℕ → Settings → Shared → Type 0
  Enough n S Σ = (s : ℕ) → s < N → S s ≡ true → b ≤ n + steps_at Σ s

  module _ (test : ℕ → State → Bool) {f : Settings → Shared → Shared} (a : Grows N f) where
    enough : (n : ℕ) (S : Settings) (Σ : Shared) → Enough (suc n) S Σ
        → (let again : Settings = where_true test (left S Σ) (reached S Σ) in Enough n again (f again (reached S Σ)))
    unfolding Enough where_true
    enough n S Σ h s i e =
        let l : left S Σ s ≡ true = (and_true (left S Σ s) (test s ((reached S Σ).at s)) e).0 in
        omega (arith, h s i (left_in S Σ s l).0, left_steps S Σ s l, a.grows (where_true test (left S Σ) (reached S Σ)) (reached S Σ) s i)

    none : {A : Type 0} (S : Settings) (Σ : Shared) → Enough zero S Σ → any N (left S Σ) ≡ true → A
    unfolding Enough
    none S Σ h e =
        let r : (s : ℕ) × (s < N) × (left S Σ s ≡ true) = any_true N (left S Σ) e in
        let p : (S r.0 ≡ true) × (ready b (Σ.at r.0) ≡ true) = left_in S Σ r.0 r.2 in
        let z : ⊥ = omega (arith, h r.0 r.1 p.0, ready_lt b (Σ.at r.0) p.1) in
        absurd z

    turns_same : (n m : ℕ) (S : Settings) (Σ : Shared) → Enough n S Σ → Enough m S Σ
        → turns (suc n) N b test f S Σ ≡ turns (suc m) N b test f S Σ
    unfolding turns
    turns_same zero m S Σ h k = begun_same _ _ S Σ (none S Σ h)
    turns_same (suc n) zero S Σ h k = begun_same _ _ S Σ (none S Σ k)
    turns_same (suc n) (suc m) S Σ h k = begun_same _ _ S Σ λ e. turns_same n m _ _ (enough n S Σ h) (enough m S Σ k)

pub while_again : (N b : ℕ) (e : Boolean Condition) (x : Statement Condition) (S : Settings) (Σ : Shared)
    → shared N b (while e x) S Σ ≡ begun N b (λ left Σ'.
    let again : Settings = where_true (λ s σ. truth_in s e σ.numbers) left Σ' in
    shared N b (while e x) again (shared N b x again Σ')) S Σ
unfolding shared turns Enough left reached
while_again N zero e x S Σ = begun_same N zero _ _ S Σ (none N zero (λ s σ. truth_in s e σ.numbers) (shared_grows N zero x) S Σ λ s h i. omega arith)
while_again N (suc c) e x S Σ = begun_same N (suc c) _ _ S Σ λ i.
    turns_same N (suc c) (λ s σ. truth_in s e σ.numbers) (shared_grows N (suc c) x) c (suc c) _ _
    (enough N (suc c) (λ s σ. truth_in s e σ.numbers) (shared_grows N (suc c) x) c S Σ λ s h j. omega arith)
    (λ s h j. omega arith)
