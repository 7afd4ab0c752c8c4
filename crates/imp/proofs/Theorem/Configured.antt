-- What configuring keeps: a plain routine is its own, for any setting; and a routine that an image can hold stays one.
use Rattle.std.specs.Prelude.{◌≡◌, ℕ, Bool, true, false, cond, refl}
use Rattle.imp.specs.Condition.{Condition, holds}
use Rattle.imp.specs.Routine.{Arithmetic, number, variable, sum, pick, choiceᵃ, Boolean, falseᵇ, trueᵇ, notᵇ, andᵇ, less, choiceᵇ, Statement, skip, assign, sequence, if, while, throw, try, choice}
use Rattle.imp.specs.Configure.{configureᵃ, configureᵇ, configure}
use Rattle.imp.specs.Embed.{embedᵃ, embedᵇ, embed}
use Rattle.imp.specs.Valid.{Validᵃ, Validᵇ, Valid}

-- ---- a plain routine

mutual
  unfolding configureᵃ embedᵃ

  backᵃ : (s : ℕ) (a : Arithmetic ⊥) → configureᵃ s (embedᵃ a) ≡ a
  backᵃ s (number n) = refl
  backᵃ s (variable v) = refl
  backᵃ s (sum a b) = rw (backᵃ s a, backᵃ s b)
  backᵃ s (pick e a b) = rw (backᵇ s e, backᵃ s a, backᵃ s b)
  backᵃ s (choiceᵃ c a b) = absurd c

  backᵇ : (s : ℕ) (e : Boolean ⊥) → configureᵇ s (embedᵇ e) ≡ e
  backᵇ s falseᵇ = refl
  backᵇ s trueᵇ = refl
  backᵇ s (notᵇ e) = rw (backᵇ s e)
  backᵇ s (andᵇ e f) = rw (backᵇ s e, backᵇ s f)
  backᵇ s (less a b) = rw (backᵃ s a, backᵃ s b)
  backᵇ s (choiceᵇ c e f) = absurd c

pub configure_embed : (s : ℕ) (t : Statement ⊥) → configure s (embed t) ≡ t
unfolding configure embed
configure_embed s skip = refl
configure_embed s (assign v a) = rw (backᵃ s a)
configure_embed s (sequence x y) = rw (configure_embed s x, configure_embed s y)
configure_embed s (if e x y) = rw (backᵇ s e, configure_embed s x, configure_embed s y)
configure_embed s (while e x) = rw (backᵇ s e, configure_embed s x)
configure_embed s (throw a) = rw (backᵃ s a)
configure_embed s (try x v y) = rw (configure_embed s x, configure_embed s y)
configure_embed s (choice c x y) = absurd c

-- ---- a valid routine

either : {A : Type 0} (P : A → Type 0) (u : Bool) (x y : A) → P x → P y → P (cond u x y)
either P true x y p q = p
either P false x y p q = q

mutual
  unfolding configureᵃ Validᵃ

  validᵃ : (s : ℕ) (a : Arithmetic Condition) → Validᵃ a → Validᵃ (configureᵃ s a)
  validᵃ s (number n) h = h
  validᵃ s (variable v) h = h
  validᵃ s (sum a b) h = (validᵃ s a h.0, validᵃ s b h.1)
  validᵃ s (pick e a b) h = (validᵇ s e h.0, validᵃ s a h.1, validᵃ s b h.2)
  validᵃ s (choiceᵃ c a b) h = either Validᵃ (holds c s) _ _ (validᵃ s a h.0) (validᵃ s b h.1)

  validᵇ : (s : ℕ) (e : Boolean Condition) → Validᵇ e → Validᵇ (configureᵇ s e)
  validᵇ s falseᵇ h = tt
  validᵇ s trueᵇ h = tt
  validᵇ s (notᵇ e) h = validᵇ s e h
  validᵇ s (andᵇ e f) h = (validᵇ s e h.0, validᵇ s f h.1)
  validᵇ s (less a b) h = (validᵃ s a h.0, validᵃ s b h.1)
  validᵇ s (choiceᵇ c e f) h = either Validᵇ (holds c s) _ _ (validᵇ s e h.0) (validᵇ s f h.1)

pub configured_valid : (s : ℕ) (t : Statement Condition) → Valid t → Valid (configure s t)
unfolding configure Valid
configured_valid s skip h = tt
configured_valid s (assign v a) h = (h.0, validᵃ s a h.1)
configured_valid s (sequence x y) h = (configured_valid s x h.0, configured_valid s y h.1)
configured_valid s (if e x y) h = (validᵇ s e h.0, configured_valid s x h.1, configured_valid s y h.2)
configured_valid s (while e x) h = (validᵇ s e h.0, configured_valid s x h.1)
configured_valid s (throw a) h = validᵃ s a h
configured_valid s (try x v y) h = (configured_valid s x h.0, h.1, configured_valid s y h.2)
configured_valid s (choice c x y) h = either Valid (holds c s) _ _ (configured_valid s x h.0) (configured_valid s y h.1)
