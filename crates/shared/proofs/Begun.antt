-- A statement that is begun: for those that are left it does its act; where none is left, it does nothing else.
use mathlib.Core.Path.{◌≡◌, refl, sym, ◌∙◌, ap, ap₂, fun_ext}
use Prim.Native.Nat.{ℕ, ◌<◌}
use mathlib.Core.Bool.{Bool, true, false, not, ◌&&◌, cond, false≢true}
use Rattle.imp.specs.Condition.{Condition, holds}
use Rattle.imp.specs.Routine.{Statement, skip, assign, sequence, if, while, throw, try, choice}
use Rattle.imp.specs.State.{branch, State, ready, enter}
use Rattle.imp.specs.Shared.{Settings, any, Shared, for, visited, where_true, begun, turns, shared}
use Rattle.imp.proofs.Theorem.Sets.{any_false, any_true}
use Rattle.imp.proofs.Theorem.WhileShared.{left, begun_some, begun_none}

-- a part of a set in which none is ready: none of the part is, and its beginning after the rest's is the beginning of all
parted : (u c r : Bool) → u && r ≡ false → (u && c) && r ≡ false
parted true true r e = e
parted true false r e = refl
parted false c r e = refl

rest : (b : ℕ) (u c : Bool) (σ : State) → u && ready b σ ≡ false → (u && not c) && ready b (cond (u && c) (enter b σ) σ) ≡ false
rest b true true σ e = refl
rest b true false σ e = e
rest b false c σ e = refl

whole : (b : ℕ) (u c : Bool) (σ : State) → cond (u && not c) (enter b (cond (u && c) (enter b σ) σ)) (cond (u && c) (enter b σ) σ) ≡ cond u (enter b σ) σ
whole b true true σ = refl
whole b true false σ = refl
whole b false c σ = refl

nobody : (N : ℕ) (S : Settings) → ((s : ℕ) → s < N → S s ≡ false) → any N S ≡ false
nobody N S none = go (any N S) refl
  where
    go : (u : Bool) → any N S ≡ u → any N S ≡ false
    go true e = let r : (s : ℕ) × (s < N) × (S s ≡ true) = any_true N S e in absurd (false≢true (sym (none r.0 r.1) ∙ r.2))
    go false e = e

module _ (N b : ℕ) where
  -- whatever is begun for none
  pub unbegun : (t : Statement Condition) (S : Settings) (Σ : Shared) → any N (left N b S Σ) ≡ false → shared N b t S Σ ≡ for S (λ s. enter b) Σ
  unfolding shared turns left where_true for
  unbegun skip S Σ e = begun_none N b _ S Σ e
  unbegun (assign v a) S Σ e = begun_none N b _ S Σ e
  unbegun (sequence x y) S Σ e = begun_none N b _ S Σ e
  unbegun (if t x y) S Σ e = begun_none N b _ S Σ e
  unbegun (while t x) S Σ e = begun_none N b _ S Σ e
  unbegun (throw a) S Σ e = begun_none N b _ S Σ e
  unbegun (try x v y) S Σ e = begun_none N b _ S Σ e
  unbegun (choice c x y) S Σ e =
      let yes : Settings = λ s. S s && holds c s in
      let no : Settings = λ s. S s && not (holds c s) in
      let none : (s : ℕ) → s < N → S s && ready b (Σ.at s) ≡ false = any_false N (left N b S Σ) e in
      ap (shared N b y no) (unbegun x yes Σ (nobody N _ λ s h. parted (S s) (holds c s) _ (none s h)))
      ∙ unbegun y no (for yes (λ s. enter b) Σ) (nobody N _ λ s h. rest b (S s) (holds c s) (Σ.at s) (none s h))
      ∙ ap (λ f. record { at = f; visits = Σ.visits }) (fun_ext λ s. whole b (S s) (holds c s) (Σ.at s))

  -- each setting's beginning is its own
  pub begun_at : (S : Settings) (Σ : Shared) (s : ℕ) → (shared N b skip S Σ).at s ≡ cond (S s) (enter b (Σ.at s)) (Σ.at s)
  unfolding shared begun visited for
  begun_at S Σ s = go (any N (where_true (λ s. ready b) S Σ))
    where
      go : (u : Bool) → (branch u (λ Σ'. visited Σ') (λ Σ'. Σ') (for S (λ s. enter b) Σ)).at s ≡ cond (S s) (enter b (Σ.at s)) (Σ.at s)
      go true = refl
      go false = refl

  -- what is begun for some
  pub does : (act : Settings → Shared → Shared) (t : Statement Condition) (S L : Settings) (Σ Σ' : Shared)
      → ((S : Settings) (Σ : Shared) → shared N b t S Σ ≡ begun N b act S Σ)
      → L ≡ where_true (λ s. ready b) S Σ → Σ' ≡ shared N b skip S Σ → any N L ≡ true → act L Σ' ≡ shared N b t S Σ
  unfolding shared left
  does act t S L Σ Σ' means whose reach some =
      let some' : any N (left N b S Σ) ≡ true = ap (any N) (sym whose) ∙ some in
      ap₂ act whose (reach ∙ begun_some N b (λ left Σ. Σ) S Σ some') ∙ sym (means S Σ ∙ begun_some N b act S Σ some')

  -- what is begun for none
  pub does_nothing : (t : Statement Condition) (S L : Settings) (Σ Σ' : Shared) → L ≡ where_true (λ s. ready b) S Σ → Σ' ≡ shared N b skip S Σ → any N L ≡ false
      → Σ' ≡ shared N b t S Σ
  unfolding left
  does_nothing t S L Σ Σ' whose reach none =
      let none' : any N (left N b S Σ) ≡ false = ap (any N) (sym whose) ∙ none in
      reach ∙ unbegun skip S Σ none' ∙ sym (unbegun t S Σ none')
