-- Figure 4.2 (condition 2): the plain run's value and truth are exactly what the rules derive.
use Rattle.std.specs.Prelude.{◌≡◌, Bool, true, false, cond, ◌↔◌, ℤ, refl}
use Rattle.imp.specs.Routine.{Arithmetic, number, variable, sum, pick, choiceᵃ, Boolean, falseᵇ, trueᵇ, notᵇ, andᵇ, less, choiceᵇ}
use Rattle.imp.specs.State.{Numbers}
use Rattle.imp.specs.Plain.{value, truth}
use Rattle.imp.specs.Rules.Figure42.{A⇓, A-NUM, A-REF, A-ADD, A-PICKT, A-PICKF, B⇓, B-FALSE, B-TRUE, B-NOT, B-AND, B-LESS}

mutual
  unfolding value

  pub value_derived : {S : Numbers} {a : Arithmetic ⊥} {n : ℤ} → A⇓ S a n → value a S ≡ n
  value_derived A-NUM = refl
  value_derived (A-REF e) = e
  value_derived (A-ADD d d' e) = rw (value_derived d, value_derived d') e
  value_derived (A-PICKT b d) = rw (truth_derived b) (value_derived d)
  value_derived (A-PICKF b d) = rw (truth_derived b) (value_derived d)

  pub truth_derived : {S : Numbers} {e : Boolean ⊥} {b : Bool} → B⇓ S e b → truth e S ≡ b
  truth_derived B-FALSE = refl
  truth_derived B-TRUE = refl
  truth_derived (B-NOT d e) = rw (truth_derived d) e
  truth_derived (B-AND d d' e) = rw (truth_derived d, truth_derived d') e
  truth_derived (B-LESS d d' e) = rw (value_derived d, value_derived d') e

pick_rule : {S : Numbers} {e : Boolean ⊥} {a a' : Arithmetic ⊥} (b : Bool) → B⇓ S e b → A⇓ S a (value a S) → A⇓ S a' (value a' S)
    → A⇓ S (pick e a a') (cond b (value a S) (value a' S))
pick_rule true d x y = A-PICKT d x
pick_rule false d x y = A-PICKF d y

mutual
  unfolding value

  pub derives_value : (a : Arithmetic ⊥) (S : Numbers) → A⇓ S a (value a S)
  derives_value (number n) S = A-NUM
  derives_value (variable x) S = A-REF refl
  derives_value (sum a b) S = A-ADD (derives_value a S) (derives_value b S) refl
  derives_value (pick e a b) S = pick_rule (truth e S) (derives_truth e S) (derives_value a S) (derives_value b S)
  derives_value (choiceᵃ c a b) S = absurd c

  pub derives_truth : (e : Boolean ⊥) (S : Numbers) → B⇓ S e (truth e S)
  derives_truth falseᵇ S = B-FALSE
  derives_truth trueᵇ S = B-TRUE
  derives_truth (notᵇ e) S = B-NOT (derives_truth e S) refl
  derives_truth (andᵇ e f) S = B-AND (derives_truth e S) (derives_truth f S) refl
  derives_truth (less a b) S = B-LESS (derives_value a S) (derives_value b S) refl
  derives_truth (choiceᵇ c e f) S = absurd c

pub value_is_derived : (a : Arithmetic ⊥) (S : Numbers) (n : ℤ) → (value a S ≡ n) ↔ A⇓ S a n
value_is_derived a S n = (λ e. rw e at (derives_value a S), value_derived)

pub truth_is_derived : (e : Boolean ⊥) (S : Numbers) (b : Bool) → (truth e S ≡ b) ↔ B⇓ S e b
truth_is_derived e S b = (λ p. rw p at (derives_truth e S), truth_derived)
