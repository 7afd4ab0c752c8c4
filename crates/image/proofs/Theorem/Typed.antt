-- The term of a valid routine fits: each kind's digits are those of its children's classes, which the checker computes.
use Rattle.std.specs.Prelude.{◌≡◌, refl}
use Rattle.std.proofs.Common.{arith, lt-ltb}
use Rattle.imp.specs.Routine.{Arithmetic, number, variable, sum, pick, choiceᵃ, Boolean, falseᵇ, trueᵇ, notᵇ, andᵇ, less, choiceᵇ, Statement, skip, assign, sequence, if, while, throw, try, choice}
use Rattle.imp.specs.Valid.{Validᵃ, Validᵇ, Valid}
use Rattle.imp.proofs.Theorem.Wrap.{low_fits}
use Rattle.image.specs.Layout.{kinds, layout, names_node, field_fits}
use Rattle.image.specs.Encode.{termᵃ, termᵇ, termˢ}
use Rattle.image.proofs.Theorem.Fine.{term_class, own_number, own_kind, Fine}

-- the class of each kind of tree
classᵃ : (a : Arithmetic ⊥) → term_class (termᵃ a) ≡ 1
unfolding term_class termᵃ layout kinds
classᵃ (number n) = refl
classᵃ (variable v) = refl
classᵃ (sum a b) = refl
classᵃ (pick e a b) = refl
classᵃ (choiceᵃ c a b) = absurd c

classᵇ : (e : Boolean ⊥) → term_class (termᵇ e) ≡ 2
unfolding term_class termᵇ layout kinds
classᵇ falseᵇ = refl
classᵇ trueᵇ = refl
classᵇ (notᵇ e) = refl
classᵇ (andᵇ e f) = refl
classᵇ (less a b) = refl
classᵇ (choiceᵇ c e f) = absurd c

pub classˢ : (t : Statement ⊥) → term_class (termˢ t) ≡ 3
unfolding term_class termˢ layout kinds
classˢ skip = refl
classˢ (assign v a) = refl
classˢ (sequence x y) = refl
classˢ (if e x y) = refl
classˢ (while e x) = refl
classˢ (throw a) = refl
classˢ (try x v y) = refl
classˢ (choice c x y) = absurd c

mutual
  unfolding Validᵃ termᵃ Fine layout kinds names_node field_fits

  fineᵃ : (a : Arithmetic ⊥) → Validᵃ a → Fine (termᵃ a)
  fineᵃ (number n) h = (own_number (low_fits n), refl, refl, refl)
  fineᵃ (variable v) h = (own_kind {k = 1} (omega arith) refl refl (lt-ltb v 16 h), refl, refl, refl)
  fineᵃ (sum a b) h = (own_kind {k = 2} (omega arith) refl refl refl, (refl, classᵃ a, fineᵃ a h.0), (refl, classᵃ b, fineᵃ b h.1), refl)
  fineᵃ (pick e a b) h =
      (own_kind {k = 3} (omega arith) refl refl refl, (refl, classᵇ e, fineᵇ e h.0), (refl, classᵃ a, fineᵃ a h.1), (refl, classᵃ b, fineᵃ b h.2))
  fineᵃ (choiceᵃ c a b) h = absurd c

  fineᵇ : (e : Boolean ⊥) → Validᵇ e → Fine (termᵇ e)
  fineᵇ falseᵇ h = (own_kind {k = 8} (omega arith) refl refl refl, refl, refl, refl)
  fineᵇ trueᵇ h = (own_kind {k = 9} (omega arith) refl refl refl, refl, refl, refl)
  fineᵇ (notᵇ e) h = (own_kind {k = 10} (omega arith) refl refl refl, (refl, classᵇ e, fineᵇ e h), refl, refl)
  fineᵇ (andᵇ e f) h = (own_kind {k = 11} (omega arith) refl refl refl, (refl, classᵇ e, fineᵇ e h.0), (refl, classᵇ f, fineᵇ f h.1), refl)
  fineᵇ (less a b) h = (own_kind {k = 12} (omega arith) refl refl refl, (refl, classᵃ a, fineᵃ a h.0), (refl, classᵃ b, fineᵃ b h.1), refl)
  fineᵇ (choiceᵇ c e f) h = absurd c

pub fineˢ : (t : Statement ⊥) → Valid t → Fine (termˢ t)
unfolding Valid termˢ Fine layout kinds names_node field_fits
fineˢ skip h = (own_kind {k = 16} (omega arith) refl refl refl, refl, refl, refl)
fineˢ (assign v a) h = (own_kind {k = 17} (omega arith) refl refl (lt-ltb v 16 h.0), (refl, classᵃ a, fineᵃ a h.1), refl, refl)
fineˢ (sequence x y) h = (own_kind {k = 18} (omega arith) refl refl refl, (refl, classˢ x, fineˢ x h.0), (refl, classˢ y, fineˢ y h.1), refl)
fineˢ (if e x y) h =
    (own_kind {k = 19} (omega arith) refl refl refl, (refl, classᵇ e, fineᵇ e h.0), (refl, classˢ x, fineˢ x h.1), (refl, classˢ y, fineˢ y h.2))
fineˢ (while e x) h = (own_kind {k = 20} (omega arith) refl refl refl, (refl, classᵇ e, fineᵇ e h.0), (refl, classˢ x, fineˢ x h.1), refl)
fineˢ (throw a) h = (own_kind {k = 21} (omega arith) refl refl refl, (refl, classᵃ a, fineᵃ a h), refl, refl)
fineˢ (try x v y) h = (own_kind {k = 22} (omega arith) refl refl (lt-ltb v 16 h.1), (refl, classˢ x, fineˢ x h.0), (refl, classˢ y, fineˢ y h.2), refl)
fineˢ (choice c x y) h = absurd c
