-- Figure 4.3, rule by rule, with the steps counted.
use Rattle.std.specs.Prelude.{ℕ, suc, ◌+◌, true, false, ℤ, slice_set}
use Rattle.imp.specs.Routine.{Arithmetic, Boolean, Statement, skip, assign, sequence, if, while, throw, try}
use Rattle.imp.specs.State.{Numbers, Outcome, done, fault}
use Rattle.imp.specs.Rules.Figure42.{A⇓, B⇓}

-- "(Error context)": no error, or error with value n
pub data Context : Type 0 where
  • : Context
  error : ℤ → Context

-- how a run that ends in E has ended
unfoldable pub outcome_of : Context → Outcome
outcome_of • = done
outcome_of (error n) = fault n

-- the steps of reaching a statement: in an error it is not begun
unfoldable pub begins : Context → ℕ
begins • = 1
begins (error n) = 0

-- (E, S, s) ⇓S (E', S'), and k statements are begun
pub data S⇓ : Context → Numbers → Statement ⊥ → Context → Numbers → ℕ → Type 0 where
  S-ERR : {n : ℤ} {S : Numbers} {s : Statement ⊥} → S⇓ (error n) S s (error n) S 0
  S-SKIP : {E : Context} {S : Numbers} → S⇓ E S skip E S (begins E)
  S-ASSN : {S : Numbers} {x : ℕ} {a : Arithmetic ⊥} {n : ℤ} → A⇓ S a n → S⇓ • S (assign x a) • (slice_set S x n) 1
  S-SEQ : {E E' E'' : Context} {S S' S'' : Numbers} {s s' : Statement ⊥} {k k' : ℕ}
      → S⇓ E S s E' S' k → S⇓ E' S' s' E'' S'' k' → S⇓ E S (sequence s s') E'' S'' (begins E + k + k')
  S-IFT : {E : Context} {S S' : Numbers} {e : Boolean ⊥} {s s' : Statement ⊥} {k : ℕ}
      → B⇓ S e true → S⇓ • S s E S' k → S⇓ • S (if e s s') E S' (suc k)
  S-IFB : {E : Context} {S S' : Numbers} {e : Boolean ⊥} {s s' : Statement ⊥} {k : ℕ}
      → B⇓ S e false → S⇓ • S s' E S' k → S⇓ • S (if e s s') E S' (suc k)
  S-WHILET : {E E' : Context} {S S' S'' : Numbers} {e : Boolean ⊥} {s : Statement ⊥} {k k' : ℕ}
      → B⇓ S e true → S⇓ • S s E S' k → S⇓ E S' (while e s) E' S'' k' → S⇓ • S (while e s) E' S'' (suc (k + k'))
  S-WHILEF : {E : Context} {S : Numbers} {e : Boolean ⊥} {s : Statement ⊥} → B⇓ S e false → S⇓ E S (while e s) E S (begins E)
  S-THROW : {S : Numbers} {a : Arithmetic ⊥} {n : ℤ} → A⇓ S a n → S⇓ • S (throw a) (error n) S 1
  S-TRY : {S S' : Numbers} {s s' : Statement ⊥} {x k : ℕ} → S⇓ • S s • S' k → S⇓ • S (try s x s') • S' (suc k)
  S-CATCH : {E : Context} {S S' S'' : Numbers} {s s' : Statement ⊥} {x k k' : ℕ} {n : ℤ}
      → S⇓ • S s (error n) S' k → S⇓ • (slice_set S' x n) s' E S'' k' → S⇓ • S (try s x s') E S'' (suc (k + k'))
