-- Figure 5.6 (condition 2): over a set that has a setting the rules derive one value, and in each setting of the set it is the value in that setting.
-- The idea: the derivation is a function of the set and the expression, written here as `value_over` and `truth_over`.
use Rattle.std.specs.Prelude.{◌≡◌, ℕ, ◌<◌, Bool, true, false, cond, not, ◌&&◌, ℤ, ◌+ℤ◌, int_lt, refl}
use Rattle.std.proofs.Common.{sym, ◌∙◌, true≢false}
use Rattle.imp.specs.Numbers.{wrap}
use Rattle.imp.specs.Condition.{Condition, holds}
use Rattle.imp.specs.Routine.{Arithmetic, number, variable, sum, pick, choiceᵃ, Boolean, falseᵇ, trueᵇ, notᵇ, andᵇ, less, choiceᵇ}
use Rattle.imp.specs.Shared.{Settings, any, value_in, truth_in}
use Rattle.imp.specs.Rules.Variational.{Varied, Sat, Unsat, ◌∩◌, negation, one, choose, lift, lift2, Store, lookup, when_true, when_false}
use Rattle.imp.specs.Rules.Figure56.{VA⇓, VA-NUM, VA-REF, VA-ADD, VA-CHC1, VA-CHC2, VA-CHC3, VA-PICK1, VA-PICK2, VA-PICK3, VB⇓, VB-FALSE, VB-TRUE, VB-NOT, VB-AND, VB-LESS, VB-CHC1, VB-CHC2, VB-CHC3}
use Rattle.imp.proofs.Theorem.Sets.{any_true, any_has}

-- ---- the derivation as a function

-- by whether the part where D holds, and the rest, have a setting
abbrev split : {A : Type 0} → Bool → Bool → Settings → Varied A → Varied A → Varied A
split true true D l r = choose D l r
split true false D l r = l
split false u D l r = r

unfoldable mutual
  value_over : ℕ → Store → Settings → Arithmetic Condition → Varied ℤ
  value_over N S C (number n) = one n
  value_over N S C (variable x) = lookup S x
  value_over N S C (sum a a') = lift2 (λ m m'. wrap (m +ℤ m')) (value_over N S C a) (value_over N S C a')
  value_over N S C (pick e a a') = split (any N (C ∩ when_true (truth_over N S C e))) (any N (C ∩ when_false (truth_over N S C e))) (when_true (truth_over N S C e))
      (value_over N S (C ∩ when_true (truth_over N S C e)) a) (value_over N S (C ∩ when_false (truth_over N S C e)) a')
  value_over N S C (choiceᵃ c a a') = split (any N (C ∩ holds c)) (any N (C ∩ negation (holds c))) (holds c)
      (value_over N S (C ∩ holds c) a) (value_over N S (C ∩ negation (holds c)) a')

  truth_over : ℕ → Store → Settings → Boolean Condition → Varied Bool
  truth_over N S C falseᵇ = one false
  truth_over N S C trueᵇ = one true
  truth_over N S C (notᵇ e) = lift not (truth_over N S C e)
  truth_over N S C (andᵇ e e') = lift2 ◌&&◌ (truth_over N S C e) (truth_over N S C e')
  truth_over N S C (less a a') = lift2 int_lt (value_over N S C a) (value_over N S C a')
  truth_over N S C (choiceᵇ c e e') = split (any N (C ∩ holds c)) (any N (C ∩ negation (holds c))) (holds c)
      (truth_over N S (C ∩ holds c) e) (truth_over N S (C ∩ negation (holds c)) e')

-- ---- what the rules derive is that function's value

mutual
  unfolding value_over

  value_over_lem : {N : ℕ} {S : Store} {C : Settings} {a : Arithmetic Condition} {v : Varied ℤ} → VA⇓ N S C a v → v ≡ value_over N S C a
  value_over_lem (VA-NUM e) = sym e
  value_over_lem (VA-REF e) = sym e
  value_over_lem (VA-ADD d d' e) = rw (← value_over_lem d, ← value_over_lem d') (sym e)
  value_over_lem (VA-CHC1 p q d d' e) = rw (p, q, ← value_over_lem d, ← value_over_lem d') (sym e)
  value_over_lem (VA-CHC2 p q d) = rw p (value_over_lem d)
  value_over_lem (VA-CHC3 p q d) = rw (p, q) (value_over_lem d)
  value_over_lem (VA-PICK1 t p q d d' e) = rw (← truth_over_lem t, p, q, ← value_over_lem d, ← value_over_lem d') (sym e)
  value_over_lem (VA-PICK2 t p q d) = rw (← truth_over_lem t, p) (value_over_lem d)
  value_over_lem (VA-PICK3 t p q d) = rw (← truth_over_lem t, p, q) (value_over_lem d)

  truth_over_lem : {N : ℕ} {S : Store} {C : Settings} {e : Boolean Condition} {v : Varied Bool} → VB⇓ N S C e v → v ≡ truth_over N S C e
  truth_over_lem (VB-FALSE e) = sym e
  truth_over_lem (VB-TRUE e) = sym e
  truth_over_lem (VB-NOT d e) = rw (← truth_over_lem d) (sym e)
  truth_over_lem (VB-AND d d' e) = rw (← truth_over_lem d, ← truth_over_lem d') (sym e)
  truth_over_lem (VB-LESS d d' e) = rw (← value_over_lem d, ← value_over_lem d') (sym e)
  truth_over_lem (VB-CHC1 p q d d' e) = rw (p, q, ← truth_over_lem d, ← truth_over_lem d') (sym e)
  truth_over_lem (VB-CHC2 p q d) = rw p (truth_over_lem d)
  truth_over_lem (VB-CHC3 p q d) = rw (p, q) (truth_over_lem d)

-- ---- over a set that has a setting the rules derive it

-- of the two parts of a set that has a setting one has one
some_part : (N : ℕ) (C D : Settings) → Sat N C → Unsat N (C ∩ D) → Sat N (C ∩ negation D)
unfolding ◌∩◌ negation
some_part N C D h none =
    let r : (s : ℕ) × (s < N) × (C s ≡ true) = any_true N C h in
    go r.0 r.1 r.2 (D r.0) refl
  where
    go : (s : ℕ) → s < N → C s ≡ true → (u : Bool) → D s ≡ u → any N (λ s. C s && not (D s)) ≡ true
    go s i e true p = absurd (true≢false (sym (any_has N (λ s. C s && D s) s i (rw (e, p))) ∙ none))
    go s i e false p = any_has N (λ s. C s && not (D s)) s i (rw (e, p))

-- the rule by which of the parts have a setting
by_parts : {A : Type 0} (N : ℕ) (C D : Settings) (l r : Varied A) (Q : Varied A → Type 0) → Sat N C
    → (Sat N (C ∩ D) → Sat N (C ∩ negation D) → Q (choose D l r))
    → (Unsat N (C ∩ D) → Sat N (C ∩ negation D) → Q r)
    → (Sat N (C ∩ D) → Unsat N (C ∩ negation D) → Q l)
    → Q (split (any N (C ∩ D)) (any N (C ∩ negation D)) D l r)
by_parts N C D l r Q h both second first = go (any N (C ∩ D)) (any N (C ∩ negation D)) refl refl
  where
    go : (u w : Bool) → any N (C ∩ D) ≡ u → any N (C ∩ negation D) ≡ w → Q (split u w D l r)
    go true true e f = both e f
    go true false e f = first e f
    go false w e f = second e (some_part N C D h e)

mutual
  unfolding value_over when_false

  derives_value : (N : ℕ) (S : Store) (C : Settings) (a : Arithmetic Condition) → Sat N C → VA⇓ N S C a (value_over N S C a)
  derives_value N S C (number n) h = VA-NUM refl
  derives_value N S C (variable x) h = VA-REF refl
  derives_value N S C (sum a a') h = VA-ADD (derives_value N S C a h) (derives_value N S C a' h) refl
  derives_value N S C (pick e a a') h = by_parts N C (when_true (truth_over N S C e)) _ _ (λ v. VA⇓ N S C (pick e a a') v) h
      (λ p q. VA-PICK1 (derives_truth N S C e h) p q (derives_value N S _ a p) (derives_value N S _ a' q) refl)
      (λ p q. VA-PICK2 (derives_truth N S C e h) p q (derives_value N S _ a' q))
      (λ p q. VA-PICK3 (derives_truth N S C e h) p q (derives_value N S _ a p))
  derives_value N S C (choiceᵃ c a a') h = by_parts N C (holds c) _ _ (λ v. VA⇓ N S C (choiceᵃ c a a') v) h
      (λ p q. VA-CHC1 p q (derives_value N S _ a p) (derives_value N S _ a' q) refl)
      (λ p q. VA-CHC2 p q (derives_value N S _ a' q))
      (λ p q. VA-CHC3 p q (derives_value N S _ a p))

  derives_truth : (N : ℕ) (S : Store) (C : Settings) (e : Boolean Condition) → Sat N C → VB⇓ N S C e (truth_over N S C e)
  derives_truth N S C falseᵇ h = VB-FALSE refl
  derives_truth N S C trueᵇ h = VB-TRUE refl
  derives_truth N S C (notᵇ e) h = VB-NOT (derives_truth N S C e h) refl
  derives_truth N S C (andᵇ e e') h = VB-AND (derives_truth N S C e h) (derives_truth N S C e' h) refl
  derives_truth N S C (less a a') h = VB-LESS (derives_value N S C a h) (derives_value N S C a' h) refl
  derives_truth N S C (choiceᵇ c e e') h = by_parts N C (holds c) _ _ (λ v. VB⇓ N S C (choiceᵇ c e e') v) h
      (λ p q. VB-CHC1 p q (derives_truth N S _ e p) (derives_truth N S _ e' q) refl)
      (λ p q. VB-CHC2 p q (derives_truth N S _ e' q))
      (λ p q. VB-CHC3 p q (derives_truth N S _ e p))

-- ---- in each setting of the set it is the value there

-- the part that a setting is in decides
split_at : {A : Type 0} (N : ℕ) (C D : Settings) (l r : Varied A) (s : ℕ) → s < N → C s ≡ true → (x y : A)
    → ((C ∩ D) s ≡ true → l s ≡ x) → ((C ∩ negation D) s ≡ true → r s ≡ y)
    → split (any N (C ∩ D)) (any N (C ∩ negation D)) D l r s ≡ cond (D s) x y
unfolding ◌∩◌ negation choose
split_at {A} N C D l r s h e x y p q = go (D s) (any N (λ s. C s && D s)) (any N (λ s. C s && not (D s))) refl refl refl
  where
    go : (d u w : Bool) → D s ≡ d → any N (λ s. C s && D s) ≡ u → any N (λ s. C s && not (D s)) ≡ w → split u w D l r s ≡ cond d x y
    go true true true i j k = rw i (p (rw (e, i)))
    go true true false i j k = p (rw (e, i))
    go true false w i j k = absurd (true≢false (sym (any_has N (λ s. C s && D s) s h (rw (e, i))) ∙ j))
    go false true true i j k = rw i (q (rw (e, i)))
    go false true false i j k = absurd (true≢false (sym (any_has N (λ s. C s && not (D s)) s h (rw (e, i))) ∙ k))
    go false false w i j k = q (rw (e, i))

mutual
  unfolding value_over value_in one lookup lift lift2 when_true when_false

  value_at : (N : ℕ) (S : Store) (C : Settings) (a : Arithmetic Condition) (s : ℕ) → s < N → C s ≡ true → value_over N S C a s ≡ value_in s a (S s)
  value_at N S C (number n) s h e = refl
  value_at N S C (variable x) s h e = refl
  value_at N S C (sum a a') s h e = rw (value_at N S C a s h e, value_at N S C a' s h e)
  value_at N S C (pick t a a') s h e = split_at N C (when_true (truth_over N S C t)) _ _ s h e _ _
      (value_at N S _ a s h) (value_at N S _ a' s h) ∙ rw (truth_at N S C t s h e)
  value_at N S C (choiceᵃ c a a') s h e = split_at N C (holds c) _ _ s h e _ _ (value_at N S _ a s h) (value_at N S _ a' s h)

  truth_at : (N : ℕ) (S : Store) (C : Settings) (t : Boolean Condition) (s : ℕ) → s < N → C s ≡ true → truth_over N S C t s ≡ truth_in s t (S s)
  truth_at N S C falseᵇ s h e = refl
  truth_at N S C trueᵇ s h e = refl
  truth_at N S C (notᵇ t) s h e = rw (truth_at N S C t s h e)
  truth_at N S C (andᵇ t t') s h e = rw (truth_at N S C t s h e, truth_at N S C t' s h e)
  truth_at N S C (less a a') s h e = rw (value_at N S C a s h e, value_at N S C a' s h e)
  truth_at N S C (choiceᵇ c t t') s h e = split_at N C (holds c) _ _ s h e _ _ (truth_at N S _ t s h) (truth_at N S _ t' s h)

-- ---- the theorems

module _ (N : ℕ) (S : Store) (C : Settings) where
  -- over a set that has a setting there is a derivation, and in the set it says what each setting's own value is
  pub value_derives : (a : Arithmetic Condition) → Sat N C
      → (v : Varied ℤ) × VA⇓ N S C a v × ((s : ℕ) → s < N → C s ≡ true → v s ≡ value_in s a (S s))
  value_derives a h = (value_over N S C a, derives_value N S C a h, value_at N S C a)

  pub truth_derives : (t : Boolean Condition) → Sat N C
      → (v : Varied Bool) × VB⇓ N S C t v × ((s : ℕ) → s < N → C s ≡ true → v s ≡ truth_in s t (S s))
  truth_derives t h = (truth_over N S C t, derives_truth N S C t h, truth_at N S C t)

-- and what is derived is one value
pub value_unique : {N : ℕ} {S : Store} {C : Settings} {a : Arithmetic Condition} {v w : Varied ℤ} → VA⇓ N S C a v → VA⇓ N S C a w → v ≡ w
value_unique d d' = value_over_lem d ∙ sym (value_over_lem d')

pub truth_unique : {N : ℕ} {S : Store} {C : Settings} {t : Boolean Condition} {v w : Varied Bool} → VB⇓ N S C t v → VB⇓ N S C t w → v ≡ w
truth_unique d d' = truth_over_lem d ∙ sym (truth_over_lem d')
