-- Figure 5.6, rule by rule, with the pick and the sum that wraps. N is the number of settings.
use Rattle.std.specs.Prelude.{◌≡◌, ℕ, Bool, true, false, not, ◌&&◌, ℤ, ◌+ℤ◌, int_lt}
use Rattle.imp.specs.Numbers.{wrap}
use Rattle.imp.specs.Condition.{Condition, holds}
use Rattle.imp.specs.Routine.{Arithmetic, number, variable, sum, pick, choiceᵃ, Boolean, falseᵇ, trueᵇ, notᵇ, andᵇ, less, choiceᵇ}
use Rattle.imp.specs.Shared.{Settings}
use Rattle.imp.specs.Rules.Variational.{Varied, Sat, Unsat, ◌∩◌, negation, one, choose, lift, lift2, Store, lookup, when_true, when_false}

mutual
  -- (C, S, a) ⇓VA n
  pub data VA⇓ (N : ℕ) (S : Store) : Settings → Arithmetic Condition → Varied ℤ → Type 0 where
    VA-NUM : {C : Settings} {n : ℤ} {v : Varied ℤ} → one n ≡ v → VA⇓ N S C (number n) v
    VA-REF : {C : Settings} {x : ℕ} {v : Varied ℤ} → lookup S x ≡ v → VA⇓ N S C (variable x) v
    VA-ADD : {C : Settings} {a a' : Arithmetic Condition} {n n' v : Varied ℤ}
        → VA⇓ N S C a n → VA⇓ N S C a' n' → lift2 (λ m m'. wrap (m +ℤ m')) n n' ≡ v → VA⇓ N S C (sum a a') v
    VA-CHC1 : {C : Settings} {c : Condition} {a a' : Arithmetic Condition} {n n' v : Varied ℤ} → Sat N (C ∩ holds c) → Sat N (C ∩ negation (holds c))
        → VA⇓ N S (C ∩ holds c) a n → VA⇓ N S (C ∩ negation (holds c)) a' n' → choose (holds c) n n' ≡ v → VA⇓ N S C (choiceᵃ c a a') v
    VA-CHC2 : {C : Settings} {c : Condition} {a a' : Arithmetic Condition} {n : Varied ℤ} → Unsat N (C ∩ holds c) → Sat N (C ∩ negation (holds c))
        → VA⇓ N S (C ∩ negation (holds c)) a' n → VA⇓ N S C (choiceᵃ c a a') n
    VA-CHC3 : {C : Settings} {c : Condition} {a a' : Arithmetic Condition} {n : Varied ℤ} → Sat N (C ∩ holds c) → Unsat N (C ∩ negation (holds c))
        → VA⇓ N S (C ∩ holds c) a n → VA⇓ N S C (choiceᵃ c a a') n
    -- the pick goes by its test as a choice by its condition
    VA-PICK1 : {C : Settings} {e : Boolean Condition} {a a' : Arithmetic Condition} {b : Varied Bool} {n n' v : Varied ℤ} → VB⇓ N S C e b
        → Sat N (C ∩ when_true b) → Sat N (C ∩ when_false b)
        → VA⇓ N S (C ∩ when_true b) a n → VA⇓ N S (C ∩ when_false b) a' n' → choose (when_true b) n n' ≡ v → VA⇓ N S C (pick e a a') v
    VA-PICK2 : {C : Settings} {e : Boolean Condition} {a a' : Arithmetic Condition} {b : Varied Bool} {n : Varied ℤ} → VB⇓ N S C e b
        → Unsat N (C ∩ when_true b) → Sat N (C ∩ when_false b) → VA⇓ N S (C ∩ when_false b) a' n → VA⇓ N S C (pick e a a') n
    VA-PICK3 : {C : Settings} {e : Boolean Condition} {a a' : Arithmetic Condition} {b : Varied Bool} {n : Varied ℤ} → VB⇓ N S C e b
        → Sat N (C ∩ when_true b) → Unsat N (C ∩ when_false b) → VA⇓ N S (C ∩ when_true b) a n → VA⇓ N S C (pick e a a') n

  -- (C, S, e) ⇓VB b; VB-BOOL is a rule for each literal
  pub data VB⇓ (N : ℕ) (S : Store) : Settings → Boolean Condition → Varied Bool → Type 0 where
    VB-FALSE : {C : Settings} {v : Varied Bool} → one false ≡ v → VB⇓ N S C falseᵇ v
    VB-TRUE : {C : Settings} {v : Varied Bool} → one true ≡ v → VB⇓ N S C trueᵇ v
    VB-NOT : {C : Settings} {e : Boolean Condition} {b v : Varied Bool} → VB⇓ N S C e b → lift not b ≡ v → VB⇓ N S C (notᵇ e) v
    VB-AND : {C : Settings} {e e' : Boolean Condition} {b b' v : Varied Bool}
        → VB⇓ N S C e b → VB⇓ N S C e' b' → lift2 ◌&&◌ b b' ≡ v → VB⇓ N S C (andᵇ e e') v
    VB-LESS : {C : Settings} {a a' : Arithmetic Condition} {n n' : Varied ℤ} {v : Varied Bool}
        → VA⇓ N S C a n → VA⇓ N S C a' n' → lift2 int_lt n n' ≡ v → VB⇓ N S C (less a a') v
    VB-CHC1 : {C : Settings} {c : Condition} {e e' : Boolean Condition} {b b' v : Varied Bool} → Sat N (C ∩ holds c) → Sat N (C ∩ negation (holds c))
        → VB⇓ N S (C ∩ holds c) e b → VB⇓ N S (C ∩ negation (holds c)) e' b' → choose (holds c) b b' ≡ v → VB⇓ N S C (choiceᵇ c e e') v
    VB-CHC2 : {C : Settings} {c : Condition} {e e' : Boolean Condition} {b : Varied Bool} → Unsat N (C ∩ holds c) → Sat N (C ∩ negation (holds c))
        → VB⇓ N S (C ∩ negation (holds c)) e' b → VB⇓ N S C (choiceᵇ c e e') b
    VB-CHC3 : {C : Settings} {c : Condition} {e e' : Boolean Condition} {b : Varied Bool} → Sat N (C ∩ holds c) → Unsat N (C ∩ negation (holds c))
        → VB⇓ N S (C ∩ holds c) e b → VB⇓ N S C (choiceᵇ c e e') b
