-- A second witness for what statements do: states worked out by hand from document 01, of the changes that the plain run, the shared run and the
-- rules are made of; then of statements, in both runs alike.
use Rattle.std.specs.Prelude.{◌≡◌, ℕ, Bool, true, false, [], ◌∷◌, ℤ, pos, refl}
use Rattle.sets.specs.Member.{bit}
use Rattle.imp.specs.Condition.{Condition, option}
use Rattle.imp.specs.Routine.{Arithmetic, number, variable, falseᵇ, trueᵇ, Statement, skip, assign, sequence, if, while, throw, try, choice}
use Rattle.imp.specs.Configure.{configure}
use Rattle.imp.specs.State.{Numbers, Outcome, idle, done, fault, out, State, outcome_number, code, live, in_fault, store, thrown, taken, ready, spent, enter, fresh, untouched, state}
use Rattle.imp.specs.Plain as Plain
use Rattle.imp.specs.Plain.{handled, run}
use Rattle.imp.specs.Shared.{any, Shared, for, visited, where_true, where_false, begun, turns, shared}
use Rattle.imp.proofs.Theorem.Clauses as Clauses
use Rattle.imp.proofs.Theorem.Clauses.{minus}

-- opens all that a run computes with
opened : Unit {0}
unfolding Clauses.opened outcome_number code live in_fault store thrown taken ready spent enter fresh untouched
    Plain.begun Plain.turns handled run any for visited where_true where_false begun turns shared
opened = tt

-- ---- outcomes

-- an outcome's number and code, and whether it is live and whether in fault
abbrev Is : Outcome → ℕ → ℤ → Bool → Bool → Type 0
Is E n c l f = ◌≡◌ {A = ℕ × ℤ × Bool × Bool} (outcome_number E, code E, live E, in_fault E) (n, c, l, f)

-- "Outcomes: 0 idle, 1 done, 2 fault, 3 out. A code is the fault's number for fault, else 0."
-- "Live is a setting of the set that is neither in fault nor out." "Out is never caught. Fault 0 is a fault."
pub outcomes :
    Is idle 0 (pos 0) false false
    × Is done 1 (pos 0) true false
    × Is (fault (pos 7)) 2 (pos 7) false true
    × Is (fault (pos 0)) 2 (pos 0) false true
    × Is (fault (minus 3)) 2 (minus 3) false true
    × Is out 3 (pos 0) false false
unfolding opened
outcomes = (refl, refl, refl, refl, refl, refl)

-- ---- changes of one setting

-- variables 0 to 2
abbrev three : ℤ → ℤ → ℤ → Numbers
three a b c = a ∷ b ∷ c ∷ []

abbrev given : Numbers
given = three (pos 4) (pos 5) (pos 6)

-- "Settings outside the set get idle, 0, 0 and keep their numbers."
pub starts :
    (fresh given ≡ state given done 0)
    × (untouched given ≡ state given idle 0)
unfolding opened
starts = (refl, refl)

-- "Before a statement is begun, a run which has already begun as many as its budget stops as out, with its numbers as they stand."
-- "Each beginning counts one step"
pub beginnings :
    (enter 0 (state given done 0) ≡ state given out 0)
    × (enter 3 (state given done 3) ≡ state given out 3)
    × (enter 3 (state given done 2) ≡ state given done 3)
    × (enter 3 (state given (fault (pos 7)) 2) ≡ state given (fault (pos 7)) 2)
    × (enter 3 (state given (fault (pos 7)) 3) ≡ state given (fault (pos 7)) 3)
    × (enter 3 (state given out 2) ≡ state given out 2)
    × (enter 3 (state given idle 2) ≡ state given idle 2)
unfolding opened
beginnings = (refl, refl, refl, refl, refl, refl, refl)

-- "Assignments made before a throw remain. A try whose body ends in fault n stores n in its variable, clears the fault and runs its handler"
pub changes :
    (store 1 (minus 8) (state given done 2) ≡ state (three (pos 4) (minus 8) (pos 6)) done 2)
    × (thrown (minus 8) (state given done 2) ≡ state given (fault (minus 8)) 2)
    × (taken 2 (state given (fault (pos 7)) 2) ≡ state (three (pos 4) (pos 5) (pos 7)) done 2)
    × (taken 2 (state given (fault (pos 0)) 2) ≡ state (three (pos 4) (pos 5) (pos 0)) done 2)
    × (taken 0 (state given (fault (minus 8)) 2) ≡ state (three (minus 8) (pos 5) (pos 6)) done 2)
unfolding opened
changes = (refl, refl, refl, refl, refl)

-- ---- statements in setting 1, option 0 on and option 1 off, run together with setting 0

abbrev num : ℕ → Arithmetic Condition
num n = number (pos n)

abbrev put : ℕ → Statement Condition
put n = assign 0 (num n)

abbrev alike : State → Shared
alike σ = record { at = λ s. σ; visits = 0 }

-- with a budget, from `given` and k steps, a statement ends so in the shared run of settings 0 and 1, and in the plain run of the configured one
abbrev Ends : ℕ → ℕ → Statement Condition → State → Type 0
Ends b k t σ = (shared 2 b t (bit 3) (alike (state given done k))).at 1 ∷ run b (configure 1 t) (state given done k) ∷ [] ≡ σ ∷ σ ∷ []

-- "a run which has already begun as many as its budget stops as out": budget 0, a budget spent exactly, one left
pub budgets :
    Ends 0 0 skip (state given out 0)
    × Ends 3 3 (put 9) (state given out 3)
    × Ends 3 2 skip (state given done 3)
    × Ends 3 2 (sequence (put 9) skip) (state given out 3)
    × Ends 4 2 (sequence (put 9) skip) (state (three (pos 9) (pos 5) (pos 6)) out 4)
    × Ends 5 2 (sequence (put 9) skip) (state (three (pos 9) (pos 5) (pos 6)) done 5)
unfolding opened
budgets = (refl, refl, refl, refl, refl, refl)

-- "| 19 | if | a boolean; b, c statements |", "An if runs its then part for the settings where the test is true, then its else part for the rest; a
-- choice does so by its condition, without visit or step."
pub parts :
    Ends 9 0 (if trueᵇ (put 1) (put 2)) (state (three (pos 1) (pos 5) (pos 6)) done 2)
    × Ends 9 0 (if falseᵇ (put 1) (put 2)) (state (three (pos 2) (pos 5) (pos 6)) done 2)
    × Ends 9 0 (choice (option 0) (put 1) (put 2)) (state (three (pos 1) (pos 5) (pos 6)) done 1)
    × Ends 9 0 (choice (option 1) (put 1) (put 2)) (state (three (pos 2) (pos 5) (pos 6)) done 1)
    × Ends 9 0 (while falseᵇ (put 1)) (state given done 1)
    × Ends 3 0 (while trueᵇ (put 1)) (state (three (pos 1) (pos 5) (pos 6)) out 3)
unfolding opened
parts = (refl, refl, refl, refl, refl, refl)

-- "otherwise the handler is not run. A fault from the handler is not taken by that same try. Out is never caught. Fault 0 is a fault."
pub faults :
    Ends 9 0 (sequence (throw (variable 2)) (put 1)) (state given (fault (pos 6)) 2)
    × Ends 9 0 (sequence (choice (option 0) (throw (num 1)) skip) (throw (num 2))) (state given (fault (pos 1)) 2)
    × Ends 9 0 (try skip 1 (put 1)) (state given done 2)
    × Ends 9 0 (try (throw (num 0)) 1 (put 1)) (state (three (pos 1) (pos 0) (pos 6)) done 3)
    × Ends 9 0 (try (throw (number (minus 8))) 1 skip) (state (three (pos 4) (minus 8) (pos 6)) done 3)
    × Ends 9 0 (try (throw (num 7)) 1 (throw (num 3))) (state (three (pos 4) (pos 7) (pos 6)) (fault (pos 3)) 3)
    × Ends 1 0 (try skip 1 (put 1)) (state given out 1)
    × Ends 2 0 (try (throw (num 7)) 1 (put 1)) (state (three (pos 4) (pos 7) (pos 6)) out 2)
unfolding opened
faults = (refl, refl, refl, refl, refl, refl, refl, refl)
