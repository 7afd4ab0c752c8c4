-- Every number of a run stays in 32 bits, the number of variables stays, and steps stay within the budget.
-- The idea: a sum wraps into the range and nothing else makes a number that was not there; the rest is `Keep`.
use Rattle.std.specs.Prelude.{◌≡◌, ℕ, zero, suc, ◌<◌, ◌≤◌, Bool, true, false, cond, [], ◌∷◌, length, ℤ, pos, FitsSigned, slice_index_or, slice_set, refl}
use Rattle.std.proofs.Common.{arith}
use Rattle.std.specs.Int.{w32}
use Rattle.imp.specs.Condition.{Condition}
use Rattle.imp.specs.Routine.{Arithmetic, number, variable, sum, pick, choiceᵃ, Statement, skip, assign, sequence, if, while, throw, try, choice}
use Rattle.imp.specs.Configure.{configure}
use Rattle.imp.specs.Valid.{Validᵃ, Valid}
use Rattle.imp.specs.State as State
use Rattle.imp.specs.State.{Numbers, Outcome, out, State, code, ready, spent, enter, store, fresh, untouched}
use Rattle.imp.specs.Plain.{value, truth, run, plain_run}
use Rattle.imp.specs.Shared.{Settings, shared_run}
use Rattle.imp.proofs.Theorem.Wrap.{wrap_fits}
use Rattle.imp.proofs.Theorem.Begin.{ready_lt}
use Rattle.imp.proofs.Theorem.Configured.{configured_valid}
use Rattle.imp.proofs.Theorem.Agreement.{agreement, outside}
use Rattle.imp.proofs.Theorem.Keep.{Every, Whatever, whatever, run_keeps, length_kept}

-- each number of a list is of 32 bits
abbrev pub AllFit : Numbers → Type 0
AllFit [] = Unit {0}
AllFit (n ∷ ns) = FitsSigned w32 n × AllFit ns

zero_fits : FitsSigned w32 (pos 0)
zero_fits = record { sfits = omega arith }

pub get_or_fits : (ns : Numbers) (v : ℕ) → AllFit ns → FitsSigned w32 (slice_index_or ns v (pos 0))
get_or_fits [] v f = zero_fits
get_or_fits (n ∷ ns) zero f = f.0
get_or_fits (n ∷ ns) (suc v) f = get_or_fits ns v f.1

set_fits : (ns : Numbers) (v : ℕ) (n : ℤ) → AllFit ns → FitsSigned w32 n → AllFit (slice_set ns v n)
set_fits [] v n f h = tt
set_fits (m ∷ ns) zero n f h = (h, f.1)
set_fits (m ∷ ns) (suc v) n f h = (f.0, set_fits ns v n f.1 h)

cond_fits : (b : Bool) (m n : ℤ) → FitsSigned w32 m → FitsSigned w32 n → FitsSigned w32 (cond b m n)
cond_fits true m n h k = h
cond_fits false m n h k = k

value_fits : (a : Arithmetic ⊥) (ns : Numbers) → Validᵃ a → AllFit ns → FitsSigned w32 (value a ns)
unfolding value Validᵃ
value_fits (number n) ns l f = l
value_fits (variable v) ns l f = get_or_fits ns v f
value_fits (sum a b) ns l f = wrap_fits _
value_fits (pick e a b) ns l f = cond_fits (truth e ns) _ _ (value_fits a ns l.1 f) (value_fits b ns l.2 f)
value_fits (choiceᵃ c a b) ns l f = absurd c

-- the expressions whose values a valid routine assigns or throws are valid
every_valid : (t : Statement ⊥) → Valid t → Every Validᵃ t
unfolding Valid
every_valid skip h = tt
every_valid (assign v a) h = h.1
every_valid (sequence x y) h = (every_valid x h.0, every_valid y h.1)
every_valid (if e x y) h = (every_valid x h.1, every_valid y h.2)
every_valid (while e x) h = every_valid x h.1
every_valid (throw a) h = h
every_valid (try x v y) h = (every_valid x h.0, every_valid y h.2)
every_valid (choice c x y) h = absurd c

-- ---- a plain run

Good : State → Type 0
Good σ = AllFit σ.numbers × FitsSigned w32 (code σ.outcome)

entered_code : (b : Bool) (E : Outcome) → FitsSigned w32 (code E) → FitsSigned w32 (code (cond b out E))
unfolding code
entered_code true E h = zero_fits
entered_code false E h = h

entered_steps : (t : Bool) (k b : ℕ) → (t ≡ true → k < b) → k ≤ b → cond t (suc k) k ≤ b
entered_steps true k b h i = h refl
entered_steps false k b h i = i

run_fits : (b : ℕ) (t : Statement ⊥) → Valid t → (σ : State) → Good σ → Good (run b t σ)
unfolding Good store State.thrown State.taken enter code
run_fits b t l = run_keeps {A = Validᵃ} {R = λ σ σ'. Good σ → Good σ'} (record {
  none = λ σ g. g;
  then = λ h k g. k (h g);
  entered = λ σ g. (g.0, entered_code (spent b σ) σ.outcome g.1);
  stored = λ v a w σ g. (set_fits σ.numbers v _ g.0 (value_fits a σ.numbers w g.0), g.1);
  thrown = λ a w σ g. (g.0, value_fits a σ.numbers w g.0);
  taken = λ v σ g. (set_fits σ.numbers v _ g.0 g.1, zero_fits);
}) t (every_valid t l)

pub run_steps : (b : ℕ) (t : Statement ⊥) (σ : State) → σ.steps ≤ b → (run b t σ).steps ≤ b
unfolding store State.thrown State.taken enter
run_steps b t = run_keeps {A = Whatever} {R = λ σ σ'. σ.steps ≤ b → σ'.steps ≤ b} (record {
  none = λ σ h. h;
  then = λ h k i. k (h i);
  entered = λ σ h. entered_steps (ready b σ) σ.steps b (ready_lt b σ) h;
  stored = λ v a w σ h. h;
  thrown = λ a w σ h. h;
  taken = λ v σ h. h;
}) t (whatever t)

-- ---- the theorems: what is said of a setting that has ended

pub record InRange (b : ℕ) (ns : Numbers) (σ : State) : Type 0 where
  pub numbers_fit : AllFit σ.numbers
  pub code_fits : FitsSigned w32 (code σ.outcome)
  pub variables : length σ.numbers ≡ length ns
  pub within : σ.steps ≤ b

pub plain_range : (b : ℕ) (t : Statement ⊥) (ns : Numbers) → Valid t → AllFit ns → InRange b ns (plain_run b t ns)
unfolding plain_run fresh Good code
plain_range b t ns l f =
    let g : Good (run b t (fresh ns)) = run_fits b t l (fresh ns) (f, zero_fits) in
    record {
      numbers_fit = g.0;
      code_fits = g.1;
      variables = length_kept b t (fresh ns);
      within = run_steps b t (fresh ns) (omega arith);
    }

pub shared_range : (N b : ℕ) (t : Statement Condition) (S : Settings) (numbers : ℕ → Numbers) → Valid t
    → (s : ℕ) → s < N → AllFit (numbers s) → InRange b (numbers s) ((shared_run N b t S numbers).at s)
unfolding untouched code
shared_range N b t S numbers l s h f = go (S s) refl
  where
    go : (u : Bool) → S s ≡ u → InRange b (numbers s) ((shared_run N b t S numbers).at s)
    go true e = rw (agreement N b t S numbers s h e) (plain_range b (configure s t) (numbers s) (configured_valid s t l) f)
    go false e = rw (outside N b t S numbers s h e) (record { numbers_fit = f; code_fits = zero_fits; variables = refl; within = omega arith })
