-- The helpers of Figures 5.3 to 5.5 and 5.7, over sets of settings: a condition is the set in which it is true, and a variational value is given by
-- what it configures to in each setting, so that `sel` and the SAT solver are not needed.
use Rattle.std.specs.Prelude.{◌≡◌, ℕ, suc, Bool, true, false, cond, not, ◌&&◌, ◌||◌, List, [], ◌∷◌, ℤ, pos, nat_lt, slice_index_or, slice_set}
use Rattle.imp.specs.Condition.{Condition}
use Rattle.imp.specs.Routine.{Statement, skip, assign, sequence, if, while, throw, try, choice}
use Rattle.imp.specs.State.{Numbers, Outcome, idle, done, fault, out, State}
use Rattle.imp.specs.Shared.{Settings, any, Shared}

-- ---- Figure 5.2: conditions and values

abbrev pub Varied : Type 0 → Type 0
Varied A = ℕ → A

-- a setting below N satisfies C
abbrev pub Sat : ℕ → Settings → Type 0
Sat N C = any N C ≡ true

abbrev pub Unsat : ℕ → Settings → Type 0
Unsat N C = any N C ≡ false

unfoldable pub ◌∩◌ : Settings → Settings → Settings
◌∩◌ C D s = C s && D s

unfoldable pub negation : Settings → Settings
negation C s = not (C s)

infixl 60 ◌∩◌
-- a value that does not vary, and a choice C⟨l, r⟩
unfoldable pub one : {A : Type 0} → A → Varied A
one a s = a

unfoldable pub choose : {A : Type 0} → Settings → Varied A → Varied A → Varied A
choose C l r s = cond (C s) (l s) (r s)

-- liftA and liftA2 of Section 5.5
unfoldable pub lift : {A B : Type 0} → (A → B) → Varied A → Varied B
lift f x s = f (x s)

unfoldable pub lift2 : {A B C : Type 0} → (A → B → C) → Varied A → Varied B → Varied C
lift2 f x y s = f (x s) (y s)

-- ---- Figure 5.3: the store, vlookup and vupdate

abbrev pub Store : Type 0
Store = ℕ → Numbers

unfoldable pub lookup : Store → ℕ → Varied ℤ
lookup S x s = slice_index_or (S s) x (pos 0)

unfoldable pub update : Store → Settings → ℕ → Varied ℤ → Store
update S C x n s = cond (C s) (slice_set (S s) x (n s)) (S s)

-- ---- Figure 5.5: control structures

unfoldable pub when_true : Varied Bool → Settings
when_true b s = b s

unfoldable pub when_false : Varied Bool → Settings
when_false b = negation (when_true b)

-- ---- Figure 5.4: errors

-- (C, n): the settings in error, and their codes
pub record Error : Type 0 where
  pub within : Settings
  pub codes : Varied ℤ

abbrev pub Frame : Type 0
Frame = List Error

abbrev pub Stack : Type 0
Stack = List Frame

-- the settings in an error of a frame, and of a stack
unfoldable pub erring : Frame → Settings
erring [] s = false
erring (e ∷ l) s = e.within s || erring l s

unfoldable pub in_error : Stack → Settings
in_error [] s = false
in_error (l ∷ E) s = erring l s || in_error E s

-- the settings in which a frame's errors were thrown, for a catch block
unfoldable pub catch_ctx : Settings → Frame → Settings
catch_ctx C l s = C s && erring l s

-- the code of the first error of a frame that a setting is in
unfoldable pub extract : Frame → Varied ℤ
extract [] s = pos 0
extract (e ∷ l) s = cond (e.within s) (e.codes s) (extract l s)

-- Figure 5.7's confErr: the same over a stack
unfoldable pub conf_err : Stack → Varied ℤ
conf_err [] s = pos 0
conf_err (l ∷ E) s = cond (erring l s) (extract l s) (conf_err E s)

-- ---- document 01's counts

-- the steps of each setting, who is out, the visits
pub record Counts : Type 0 where
  pub steps : ℕ → ℕ
  pub outs : Settings
  pub visits : ℕ

-- what a statement is run in: the store, the errors, the counts
pub record World : Type 0 where
  pub store : Store
  pub errors : Stack
  pub counts : Counts

abbrev pub world : Store → Stack → Counts → World
world S E K = record { store = S; errors = E; counts = K }

-- Figure 5.4's ctx with the negation that its text asks for; who is out runs no more either: "the live settings it is run for"
unfoldable pub ctx : Settings → Stack → Counts → Settings
ctx C E K s = C s && (not (in_error E s) && not (K.outs s))

-- "a choice does so by its condition, without visit or step"
unfoldable pub counted : {C : Type 0} → Statement C → Bool
counted skip = true
counted (assign x a) = true
counted (sequence s s') = true
counted (if e s s') = true
counted (while e s) = true
counted (throw a) = true
counted (try s x s') = true
counted (choice c s s') = false

-- "those whose budget is spent first become out"
unfoldable pub made_out : ℕ → Statement Condition → Settings → Stack → Counts → Counts
made_out budget s C E K = record {
  steps = K.steps;
  outs = λ i. (counted s && (ctx C E K i && not (nat_lt (K.steps i) budget))) || K.outs i;
  visits = K.visits;
}

-- "that is one visit, whatever their number, and one step for each of them"
unfoldable pub begun : Statement Condition → Settings → Stack → Counts → Counts
begun s C E K = record {
  steps = λ i. cond (counted s && ctx C E K i) (suc (K.steps i)) (K.steps i);
  outs = K.outs;
  visits = cond (counted s) (suc K.visits) K.visits;
}

-- the error context at the start, one empty frame, and nothing counted
unfoldable pub nothing_yet : Counts
nothing_yet = record { steps = λ i. 0; outs = λ i. false; visits = 0 }

unfoldable pub at_start : Store → World
at_start S = world S ([] ∷ []) nothing_yet

-- ---- Figure 5.7: configuring the store and the error context

-- what a world says of setting i: of one outside the set D that it is idle
unfoldable pub outcome_in : Settings → Stack → Counts → ℕ → Outcome
outcome_in D E K i = cond (D i) (cond (K.outs i) out (cond (in_error E i) (fault (conf_err E i)) done)) idle

unfoldable pub conf : Settings → World → ℕ → State
conf D X i = record { numbers = X.store i; outcome = outcome_in D X.errors X.counts i; steps = X.counts.steps i }

unfoldable pub seen : Settings → World → Shared
seen D X = record { at = conf D X; visits = X.counts.visits }
