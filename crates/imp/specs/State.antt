-- What a run keeps of one setting, and the changes that a run is made of (document 01, "Running", "What is lent and what comes back").
use Rattle.std.specs.Prelude.{ℕ, suc, Bool, true, false, cond, not, ◌&&◌, List, ℤ, pos, nat_lt, slice_set}

-- the variables' numbers, variable 0 first
abbrev pub Numbers : Type 0
Numbers = List ℤ

-- how a setting ends; a setting that runs is done so far
pub data Outcome : Type 0 where
  idle done : Outcome
  fault : ℤ → Outcome
  out : Outcome

-- "Outcomes: 0 idle, 1 done, 2 fault, 3 out."
unfoldable pub outcome_number : Outcome → ℕ
outcome_number idle = 0
outcome_number done = 1
outcome_number (fault n) = 2
outcome_number out = 3

-- "A code is the fault's number for fault, else 0."
unfoldable pub code : Outcome → ℤ
code idle = pos 0
code done = pos 0
code (fault n) = n
code out = pos 0

-- "Live is a setting of the set that is neither in fault nor out."
unfoldable pub live : Outcome → Bool
live idle = false
live done = true
live (fault n) = false
live out = false

-- "Fault 0 is a fault." "Out is never caught."
unfoldable pub in_fault : Outcome → Bool
in_fault idle = false
in_fault done = false
in_fault (fault n) = true
in_fault out = false

pub record State : Type 0 where
  pub numbers : Numbers
  pub outcome : Outcome
  pub steps : ℕ

-- a state written out
abbrev pub state : Numbers → Outcome → ℕ → State
state S E k = record { numbers = S; outcome = E; steps = k }

-- f or g of x, by a test: only the one chosen is worked out
abbrev pub branch : {A : Type 0} → Bool → (A → A) → (A → A) → A → A
branch true f g x = f x
branch false f g x = g x

-- variable v becomes n
unfoldable pub store : ℕ → ℤ → State → State
store v n σ = record { numbers = slice_set σ.numbers v n; outcome = σ.outcome; steps = σ.steps }

-- fault n is thrown: "Assignments made before a throw remain."
unfoldable pub thrown : ℤ → State → State
thrown n σ = record { numbers = σ.numbers; outcome = fault n; steps = σ.steps }

-- a try "stores n in its variable, clears the fault"
unfoldable pub taken : ℕ → State → State
taken v σ = record { numbers = slice_set σ.numbers v (code σ.outcome); outcome = done; steps = σ.steps }

-- live with budget left; live with its budget spent
unfoldable pub ready : ℕ → State → Bool
ready budget σ = live σ.outcome && nat_lt σ.steps budget

unfoldable pub spent : ℕ → State → Bool
spent budget σ = live σ.outcome && not (nat_lt σ.steps budget)

-- "Before a statement is begun, a run which has already begun as many as its budget stops as out, with its numbers as they stand."
-- "Each beginning counts one step". What is not live passes by
unfoldable pub enter : ℕ → State → State
enter budget σ = record {
  numbers = σ.numbers;
  outcome = cond (spent budget σ) out σ.outcome;
  steps = cond (ready budget σ) (suc σ.steps) σ.steps;
}

-- where every run starts
unfoldable pub fresh : Numbers → State
fresh ns = record { numbers = ns; outcome = done; steps = 0 }

-- "Settings outside the set get idle, 0, 0 and keep their numbers."
unfoldable pub untouched : Numbers → State
untouched ns = record { numbers = ns; outcome = idle; steps = 0 }
