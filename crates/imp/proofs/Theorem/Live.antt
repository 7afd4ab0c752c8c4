-- A shared run is a run of the live settings of its set: two sets with the same live settings give the same run, and one with none gives none.
use Rattle.std.specs.Prelude.{◌≡◌, ℕ, zero, suc, ◌<◌, Bool, true, false, cond, not, ◌&&◌, nat_lt}
use Rattle.std.proofs.Math.Path.{refl, ap, ap₂, fun_ext}
use Rattle.std.proofs.Common.{sym, ◌∙◌, true≢false}
use Rattle.std.proofs.lemmas.Bool.{false≢true}
use Rattle.std.proofs.Math.Decide.{dec_lt}
use Rattle.imp.specs.Condition.{Condition, holds}
use Rattle.imp.specs.Routine.{Statement, skip, assign, sequence, if, while, throw, try, choice}
use Rattle.imp.specs.Configure.{configure}
use Rattle.imp.specs.State.{branch, State, live, ready, enter}
use Rattle.imp.specs.Shared.{Settings, any, Shared, for, visited, where_true, begun, turns, shared, Below}
use Rattle.imp.proofs.Theorem.Sets.{same_cond, and_true}
use Rattle.imp.proofs.Theorem.Begin.{enter_dead}
use Rattle.imp.proofs.Theorem.ImpRun.{passes}
use Rattle.imp.proofs.Theorem.Agreement.{agrees}

abbrev pub alive : Shared → Settings
alive Σ s = live (Σ.at s).outcome

module _ (N b : ℕ) where
  -- what is not live is not changed
  pub dead_stays : (t : Statement Condition) (C : Settings) (Σ : Shared) (s : ℕ) → s < N → alive Σ s ≡ false → (shared N b t C Σ).at s ≡ Σ.at s
  dead_stays t C Σ s h e = (agrees N b s h t).agree C Σ
      ∙ ap (λ σ. cond (C s) σ (Σ.at s)) (passes b (configure s t) (Σ.at s).numbers (Σ.at s).outcome (Σ.at s).steps e)
      ∙ sym (same_cond (C s) (Σ.at s))

  pub was_alive : (t : Statement Condition) (C : Settings) (Σ : Shared) (s : ℕ) → s < N → alive (shared N b t C Σ) s ≡ true → alive Σ s ≡ true
  was_alive t C Σ s h e = go (alive Σ s) refl
    where
      go : (u : Bool) → alive Σ s ≡ u → alive Σ s ≡ true
      go true p = p
      go false p = absurd (true≢false (sym e ∙ ap (λ σ. live σ.outcome) (dead_stays t C Σ s h p) ∙ p))

  -- C and C' have the same live settings
  abbrev SameLive : Shared → Settings → Settings → Type 0
  SameLive Σ C C' = (s : ℕ) → alive Σ s ≡ true → C s ≡ C' s

  left_at : (c c' l r : Bool) → (l ≡ true → c ≡ c') → c && (l && r) ≡ c' && (l && r)
  left_at c c' true r h = ap (λ x. x && r) (h refl)
  left_at true true false r h = refl
  left_at true false false r h = refl
  left_at false true false r h = refl
  left_at false false false r h = refl

  entered_at : (c c' : Bool) (σ : State) → (live σ.outcome ≡ true → c ≡ c') → cond c (enter b σ) σ ≡ cond c' (enter b σ) σ
  entered_at c c' σ h = go (live σ.outcome) refl
    where
      go : (l : Bool) → live σ.outcome ≡ l → cond c (enter b σ) σ ≡ cond c' (enter b σ) σ
      go true p = ap (λ x. cond x (enter b σ) σ) (h p)
      go false p = rw (enter_dead b σ p) (sym (same_cond c σ) ∙ same_cond c' σ)

  begun_same_live : (f : Settings → Shared → Shared) (C C' : Settings) (Σ : Shared) → SameLive Σ C C' → begun N b f C Σ ≡ begun N b f C' Σ
  unfolding begun where_true for ready
  begun_same_live f C C' Σ h = ap₂ from (fun_ext λ s. left_at (C s) (C' s) (alive Σ s) (nat_lt (Σ.at s).steps b) (h s)) entered
    where
      from : Settings → Shared → Shared
      from left entered = branch (any N left) (λ Σ'. f left (visited Σ')) (λ Σ'. Σ') entered

      entered : for C (λ s. enter b) Σ ≡ for C' (λ s. enter b) Σ
      entered = ap (λ f. record { at = f; visits = Σ.visits }) (fun_ext λ s. entered_at (C s) (C' s) (Σ.at s) (h s))

  -- what was the same for the live settings is the same for those still live
  pub still : (t : Statement Condition) (C C' S : Settings) (Σ : Shared) → Below N C → Below N C' → SameLive Σ C C' → SameLive (shared N b t S Σ) C C'
  still t C C' S Σ h h' same s e = go (dec_lt s N)
    where
      none : (B : Settings) → Below N B → (s < N → ⊥) → B s ≡ false
      none B k p = at (B s) refl
        where
          at : (u : Bool) → B s ≡ u → B s ≡ false
          at true q = absurd (p (k s q))
          at false q = q

      go : Dec (s < N) → C s ≡ C' s
      go (yes p) = same s (was_alive t S Σ s p e)
      go (no p) = none C h p ∙ sym (none C' h' p)

  below_part : (C P : Settings) → Below N C → Below N (λ s. C s && P s)
  below_part C P h s e = h s (and_true (C s) (P s) e).0

  pub same_live : (t : Statement Condition) (C C' : Settings) (Σ : Shared) → Below N C → Below N C' → SameLive Σ C C' → shared N b t C Σ ≡ shared N b t C' Σ
  unfolding shared turns
  same_live skip C C' Σ h h' e = begun_same_live _ C C' Σ e
  same_live (assign v a) C C' Σ h h' e = begun_same_live _ C C' Σ e
  same_live (sequence x y) C C' Σ h h' e = begun_same_live _ C C' Σ e
  same_live (if t x y) C C' Σ h h' e = begun_same_live _ C C' Σ e
  same_live (while t x) C C' Σ h h' e = begun_same_live _ C C' Σ e
  same_live (throw a) C C' Σ h h' e = begun_same_live _ C C' Σ e
  same_live (try x v y) C C' Σ h h' e = begun_same_live _ C C' Σ e
  same_live (choice c x y) C C' Σ h h' e =
      same_live y _ _ _ (below_part C _ h) (below_part C' _ h') (λ s p. ap (λ u. u && not (holds c s)) (still x C C' _ Σ h h' e s p))
      ∙ ap (shared N b y (λ s. C' s && not (holds c s)))
      (same_live x _ _ Σ (below_part C _ h) (below_part C' _ h') (λ s p. ap (λ u. u && holds c s) (e s p)))

  -- a run for no setting
  any_none : (n : ℕ) → any n (λ s. false) ≡ false
  unfolding any
  any_none zero = refl
  any_none (suc n) = any_none n

  begun_none : (f : Settings → Shared → Shared) (Σ : Shared) → begun N b f (λ s. false) Σ ≡ Σ
  unfolding begun where_true for
  begun_none f Σ = rw (any_none N)

  pub none_runs : (t : Statement Condition) (Σ : Shared) → shared N b t (λ s. false) Σ ≡ Σ
  unfolding shared turns
  none_runs skip Σ = begun_none _ Σ
  none_runs (assign v a) Σ = begun_none _ Σ
  none_runs (sequence x y) Σ = begun_none _ Σ
  none_runs (if t x y) Σ = begun_none _ Σ
  none_runs (while t x) Σ = begun_none _ Σ
  none_runs (throw a) Σ = begun_none _ Σ
  none_runs (try x v y) Σ = begun_none _ Σ
  none_runs (choice c x y) Σ = none_runs y _ ∙ none_runs x Σ

  -- "A part with no live setting is not entered."
  pub not_entered : (t : Statement Condition) (S : Settings) (Σ : Shared) → Below N S → ((s : ℕ) → S s ≡ true → alive Σ s ≡ false) → shared N b t S Σ ≡ Σ
  not_entered t S Σ h none = same_live t S (λ s. false) Σ h (λ s e. absurd (false≢true e)) (λ s a. go s a (S s) refl) ∙ none_runs t Σ
    where
      go : (s : ℕ) → alive Σ s ≡ true → (u : Bool) → S s ≡ u → S s ≡ false
      go s a true e = absurd (true≢false (sym a ∙ none s e))
      go s a false e = e
