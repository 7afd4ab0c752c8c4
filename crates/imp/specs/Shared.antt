-- The shared run over a set of settings: chapter 5 of the thesis as a function, with the pick and the budget (document 01, "Shared run").
use Rattle.std.specs.Prelude.{◌≡◌, ℕ, zero, suc, ◌+◌, ◌^◌, ◌<◌, Bool, true, false, cond, not, ◌&&◌, ◌||◌, ℤ, pos, ◌+ℤ◌, int_lt, nat_le, slice_index_or}
use Rattle.imp.specs.Numbers.{wrap}
use Rattle.imp.specs.Condition.{Condition, holds}
use Rattle.imp.specs.Routine.{Arithmetic, number, variable, sum, pick, choiceᵃ, Boolean, falseᵇ, trueᵇ, notᵇ, andᵇ, less, choiceᵇ, Statement, skip, assign, sequence, if, while, throw, try, choice}
use Rattle.imp.specs.State.{Numbers, State, branch, in_fault, store, thrown, taken, ready, enter, fresh, untouched}

-- ---- expressions, in setting s: a choice goes by its condition

unfoldable mutual
  pub value_in : ℕ → Arithmetic Condition → Numbers → ℤ
  value_in s (number n) ns = n
  value_in s (variable v) ns = slice_index_or ns v (pos 0)
  value_in s (sum a b) ns = wrap (value_in s a ns +ℤ value_in s b ns)
  value_in s (pick e a b) ns = cond (truth_in s e ns) (value_in s a ns) (value_in s b ns)
  value_in s (choiceᵃ c a b) ns = cond (holds c s) (value_in s a ns) (value_in s b ns)

  pub truth_in : ℕ → Boolean Condition → Numbers → Bool
  truth_in s falseᵇ ns = false
  truth_in s trueᵇ ns = true
  truth_in s (notᵇ e) ns = not (truth_in s e ns)
  truth_in s (andᵇ e f) ns = truth_in s e ns && truth_in s f ns
  truth_in s (less a b) ns = int_lt (value_in s a ns) (value_in s b ns)
  truth_in s (choiceᵇ c e f) ns = cond (holds c s) (truth_in s e ns) (truth_in s f ns)

-- ---- sets of settings, and the state of all settings

-- the settings for which it is true
abbrev pub Settings : Type 0
Settings = ℕ → Bool

-- a setting below n is in S
unfoldable pub any : ℕ → Settings → Bool
any zero S = false
any (suc n) S = S n || any n S

-- the settings of C are below N
abbrev pub Below : ℕ → Settings → Type 0
Below N C = (s : ℕ) → C s ≡ true → s < N

pub record Shared : Type 0 where
  pub at : ℕ → State
  pub visits : ℕ

-- a setting's steps, and the sum of f below n: the visits are "at most their sum"
abbrev pub steps_at : Shared → ℕ → ℕ
steps_at Σ s = (Σ.at s).steps

unfoldable pub total : ℕ → (ℕ → ℕ) → ℕ
total zero f = 0
total (suc n) f = f n + total n f

-- each setting of S is changed by f, and no other
unfoldable pub for : Settings → (ℕ → State → State) → Shared → Shared
for S f Σ = record { at = λ s. cond (S s) (f s (Σ.at s)) (Σ.at s); visits = Σ.visits }

unfoldable pub visited : Shared → Shared
visited Σ = record { at = Σ.at; visits = suc Σ.visits }

-- the settings of S in which a test is true, and those in which it is false
unfoldable pub where_true : (ℕ → State → Bool) → Settings → Shared → Settings
where_true test S Σ s = S s && test s (Σ.at s)

unfoldable pub where_false : (ℕ → State → Bool) → Settings → Shared → Settings
where_false test S Σ s = S s && not (test s (Σ.at s))

-- "At a statement, of the live settings it is run for, and no others, those whose budget is spent first become out. If any are left, that is one
-- visit, whatever their number, and one step for each of them." N is the number of settings; `act` is done for those that are left
unfoldable pub begun : ℕ → ℕ → (Settings → Shared → Shared) → Settings → Shared → Shared
begun N budget act S Σ =
    let left : Settings = where_true (λ s. ready budget) S Σ in
    let entered : Shared = for S (λ s. enter budget) Σ in
    branch (any N left) (λ Σ'. act left (visited Σ')) (λ Σ'. Σ') entered

-- ---- statements

-- a while of at most n tests: "tested again for the settings that were true and are still live, together"
unfoldable pub turns : ℕ → ℕ → ℕ → (ℕ → State → Bool) → (Settings → Shared → Shared) → Settings → Shared → Shared
turns zero N budget test body S Σ = Σ
turns (suc n) N budget test body S Σ = begun N budget (λ left Σ'.
    let again : Settings = where_true test left Σ' in
    turns n N budget test body again (body again Σ')) S Σ

-- "An if runs its then part for the settings where the test is true, then its else part for the rest"; "A handler runs for exactly the settings
-- in which its own try's body ended in fault."; a choice goes "by its condition, without visit or step"
unfoldable pub shared : ℕ → ℕ → Statement Condition → Settings → Shared → Shared
shared N budget skip = begun N budget λ left Σ. Σ
shared N budget (assign v a) = begun N budget λ left Σ. for left (λ s σ. store v (value_in s a σ.numbers) σ) Σ
shared N budget (sequence x y) = begun N budget λ left Σ. shared N budget y left (shared N budget x left Σ)
shared N budget (if e x y) = begun N budget λ left Σ.
    let then-part : Settings = where_true (λ s σ. truth_in s e σ.numbers) left Σ in
    let else-part : Settings = where_false (λ s σ. truth_in s e σ.numbers) left Σ in
    shared N budget y else-part (shared N budget x then-part Σ)
shared N budget (while e x) = turns (suc budget) N budget (λ s σ. truth_in s e σ.numbers) (shared N budget x)
shared N budget (throw a) = begun N budget λ left Σ. for left (λ s σ. thrown (value_in s a σ.numbers) σ) Σ
shared N budget (try x v y) = begun N budget λ left Σ.
    let Σ' : Shared = shared N budget x left Σ in
    let caught : Settings = where_true (λ s σ. in_fault σ.outcome) left Σ' in
    shared N budget y caught (for caught (λ s. taken v) Σ')
shared N budget (choice c x y) = λ S Σ.
    shared N budget y (λ s. S s && not (holds c s)) (shared N budget x (λ s. S s && holds c s) Σ)

-- ---- the whole run

-- every setting of the set starts afresh from its own numbers, every other is idle
unfoldable pub start : Settings → (ℕ → Numbers) → Shared
start S numbers = record { at = λ s. cond (S s) (fresh (numbers s)) (untouched (numbers s)); visits = 0 }

unfoldable pub shared_run : ℕ → ℕ → Statement Condition → Settings → (ℕ → Numbers) → Shared
shared_run N budget t S numbers = shared N budget t S (start S numbers)

-- row 9 of the table: the set, as a number, "has a setting at or above N"
unfoldable pub beyond : ℕ → ℕ → Bool
beyond N set = nat_le (2 ^ N) set
