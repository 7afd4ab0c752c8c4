-- Figure 4.2, rule by rule, with the pick and the sum that wraps.
use Rattle.std.specs.Prelude.{◌≡◌, ℕ, Bool, true, false, not, ◌&&◌, ℤ, pos, ◌+ℤ◌, int_lt, slice_index_or}
use Rattle.imp.specs.Numbers.{wrap}
use Rattle.imp.specs.Routine.{Arithmetic, number, variable, sum, pick, Boolean, falseᵇ, trueᵇ, notᵇ, andᵇ, less}
use Rattle.imp.specs.State.{Numbers}

mutual
  -- (S, a) ⇓A n
  pub data A⇓ (S : Numbers) : Arithmetic ⊥ → ℤ → Type 0 where
    A-NUM : {n : ℤ} → A⇓ S (number n) n
    A-REF : {x : ℕ} {n : ℤ} → slice_index_or S x (pos 0) ≡ n → A⇓ S (variable x) n
    A-ADD : {a a' : Arithmetic ⊥} {n n' m : ℤ} → A⇓ S a n → A⇓ S a' n' → wrap (n +ℤ n') ≡ m → A⇓ S (sum a a') m
    A-PICKT : {e : Boolean ⊥} {a a' : Arithmetic ⊥} {n : ℤ} → B⇓ S e true → A⇓ S a n → A⇓ S (pick e a a') n
    A-PICKF : {e : Boolean ⊥} {a a' : Arithmetic ⊥} {n : ℤ} → B⇓ S e false → A⇓ S a' n → A⇓ S (pick e a a') n

  -- (S, e) ⇓B b; B-BOOL is a rule for each literal
  pub data B⇓ (S : Numbers) : Boolean ⊥ → Bool → Type 0 where
    B-FALSE : B⇓ S falseᵇ false
    B-TRUE : B⇓ S trueᵇ true
    B-NOT : {e : Boolean ⊥} {b c : Bool} → B⇓ S e b → not b ≡ c → B⇓ S (notᵇ e) c
    B-AND : {e e' : Boolean ⊥} {b b' c : Bool} → B⇓ S e b → B⇓ S e' b' → b && b' ≡ c → B⇓ S (andᵇ e e') c
    B-LESS : {a a' : Arithmetic ⊥} {n n' : ℤ} {c : Bool} → A⇓ S a n → A⇓ S a' n' → int_lt n n' ≡ c → B⇓ S (less a a') c
