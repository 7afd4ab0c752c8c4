-- "Checked by hand": cases (a) to (e) and (g) to (j), three more on a spent budget, (k) to (m), and one on faults, (n), as one table whose rows the checker computes.
-- Case (f) speaks of bytes.
use Rattle.std.specs.Prelude.{◌≡◌, ℕ, Bool, true, false, List, [], ◌∷◌, take, replicate, ℤ, pos, negsuc, refl}
use Rattle.sets.specs.Member.{digit, bit}
use Rattle.imp.specs.Condition.{Condition, option, on_in, holds}
use Rattle.imp.specs.Routine.{Arithmetic, number, variable, sum, choiceᵃ, trueᵇ, less, Statement, skip, assign, sequence, if, while, throw, try, choice}
use Rattle.imp.specs.Configure.{configure, configureᵃ}
use Rattle.imp.specs.Numbers.{low32, signed32, wrap}
use Rattle.imp.specs.State.{Numbers, State, outcome_number, code, live, in_fault, store, thrown, taken, ready, spent, enter, fresh, untouched}
use Rattle.imp.specs.Plain as Plain
use Rattle.imp.specs.Plain.{value, run, plain_run}
use Rattle.imp.specs.Shared.{value_in, truth_in, any, Shared, for, visited, where_true, where_false, begun, turns, shared, start, shared_run, beyond}

-- ---- the routines

abbrev by_option : Condition
by_option = option 0

abbrev num : ℕ → Arithmetic Condition
num n = number (pos n)

-- "One listing, whole"
unfoldable pub H : Statement Condition
H = sequence (assign 0 (choiceᵃ by_option (num 380) (num 310))) (if (less (num 350) (variable 0)) (throw (num 7)) skip)

-- "try (choice: throw 9, else skip) catch 1 with variable 2 := 1"
unfoldable pub G : Statement Condition
G = try (choice by_option (throw (num 9)) skip) 1 (assign 2 (num 1))

-- "while variable 0 < (choice: 2, else 1) add 1 to it"
unfoldable pub L : Statement Condition
L = while (less (variable 0) (choiceᵃ by_option (num 2) (num 1))) (assign 0 (sum (variable 0) (num 1)))

-- "2147483647 + 1"
unfoldable pub I : Statement Condition
I = assign 0 (sum (num 2147483647) (num 1))

-- "an uncaught throw 0"
unfoldable pub J : Statement Condition
J = throw (num 0)

-- a try whose body never ends, with a number in the variable that it would store to
unfoldable pub M : Statement Condition
M = sequence (assign 1 (num 5)) (try (while trueᵇ skip) 1 skip)

-- a handler that throws: fault 0 is taken, its own fault is not
unfoldable pub T : Statement Condition
T = sequence (assign 1 (num 4)) (try (throw (num 0)) 1 (throw (num 5)))

-- ---- the rows

-- how a setting ends: the outcome's number, the code, the steps, and variables 0, 1 and 2
abbrev pub End : Type 0
End = ℕ × ℤ × ℕ × List ℤ

pub data Row : Type 0 where
  -- the shared run over 2 settings ends so in one of them, with so many visits
  shared_end : Statement Condition → (set budget setting : ℕ) → End → (visits : ℕ) → Row
  -- the plain run of the routine configured for a setting ends so
  plain_end : Statement Condition → (budget setting : ℕ) → End → Row
  -- "set has a setting at or above N", refused with 9, or it has none
  refused : (set : ℕ) → Bool → Row

-- "all numbers start at 0"
abbrev zeros : Numbers
zeros = replicate 16 (pos 0)

abbrev end_of : State → End
end_of σ = (outcome_number σ.outcome, code σ.outcome, σ.steps, take 3 σ.numbers)

-- what a row says
abbrev Says : Row → Type 0
Says (shared_end t set budget s e n) =
    let Σ : Shared = shared_run 2 budget t (bit set) (λ s. zeros) in
    ◌≡◌ {A = End × ℕ} (end_of (Σ.at s), Σ.visits) (e, n)
Says (plain_end t budget s e) = end_of (plain_run budget (configure s t) zeros) ≡ e
Says (refused set r) = beyond 2 set ≡ r

abbrev All : List Row → Type 0
All [] = Unit {0}
All (r ∷ rs) = Says r × All rs

-- ---- the table

abbrev three : ℕ → ℕ → ℕ → List ℤ
three a b c = pos a ∷ pos b ∷ pos c ∷ []

-- a row: routine, set, budget, setting, (outcome 0 idle, 1 done, 2 fault, 3 out; code; steps; variables 0, 1 and 2), visits
abbrev table : List Row
table =
    -- (a)
    shared_end H 3 100 0 (1, pos 0, 4, three 310 0 0) 5
    ∷ shared_end H 3 100 1 (2, pos 7, 4, three 380 0 0) 5
    ∷ plain_end H 100 0 (1, pos 0, 4, three 310 0 0)
    ∷ plain_end H 100 1 (2, pos 7, 4, three 380 0 0)
    -- (b)
    ∷ shared_end H 3 3 0 (3, pos 0, 3, three 310 0 0) 3
    ∷ shared_end H 3 3 1 (3, pos 0, 3, three 380 0 0) 3
    -- (c)
    ∷ shared_end H 2 100 0 (0, pos 0, 0, three 0 0 0) 4
    ∷ shared_end H 2 100 1 (2, pos 7, 4, three 380 0 0) 4
    -- (d): 4 is refused, the set of (a) is not
    ∷ refused 4 true
    ∷ refused 3 false
    -- (e)
    ∷ shared_end H 3 0 0 (3, pos 0, 0, three 0 0 0) 0
    ∷ shared_end H 3 0 1 (3, pos 0, 0, three 0 0 0) 0
    -- (g)
    ∷ shared_end G 3 100 0 (1, pos 0, 2, three 0 0 0) 4
    ∷ shared_end G 3 100 1 (1, pos 0, 3, three 0 9 1) 4
    -- (h)
    ∷ shared_end L 3 100 0 (1, pos 0, 3, three 1 0 0) 5
    ∷ shared_end L 3 100 1 (1, pos 0, 5, three 2 0 0) 5
    -- (i)
    ∷ shared_end I 3 100 0 (1, pos 0, 1, negsuc 2147483647 ∷ pos 0 ∷ pos 0 ∷ []) 1
    ∷ shared_end I 3 100 1 (1, pos 0, 1, negsuc 2147483647 ∷ pos 0 ∷ pos 0 ∷ []) 1
    -- (j)
    ∷ shared_end J 3 100 0 (2, pos 0, 1, three 0 0 0) 1
    ∷ shared_end J 3 100 1 (2, pos 0, 1, three 0 0 0) 1
    -- (k), a handler that meets a spent budget: 9 is stored, then the handler cannot begin
    ∷ shared_end G 3 2 0 (1, pos 0, 2, three 0 0 0) 3
    ∷ shared_end G 3 2 1 (3, pos 0, 2, three 0 9 0) 3
    -- (l), a budget spent exactly is not out
    ∷ shared_end H 3 4 0 (1, pos 0, 4, three 310 0 0) 5
    ∷ shared_end H 3 4 1 (2, pos 7, 4, three 380 0 0) 5
    -- (m), a body that runs out is not caught: variable 1 keeps its 5
    ∷ shared_end M 3 6 0 (3, pos 0, 6, three 0 5 0) 6
    ∷ shared_end M 3 6 1 (3, pos 0, 6, three 0 5 0) 6
    -- (n), "Fault 0 is a fault", and "A fault from the handler is not taken by that same try."
    ∷ shared_end T 3 100 0 (2, pos 5, 5, three 0 0 0) 5
    ∷ shared_end T 3 100 1 (2, pos 5, 5, three 0 0 0) 5
    ∷ []

-- opens all that a run computes with
opened : Unit {0}
unfolding digit bit truth_in on_in holds H G L I J M T configure configureᵃ low32 signed32 wrap outcome_number code live in_fault store thrown taken ready spent enter
    fresh untouched value Plain.begun run plain_run value_in any for visited where_true where_false begun turns shared start shared_run beyond
opened = tt

pub checked : All table
unfolding opened
checked = (refl, (refl, (refl, (refl, (refl, (refl, (refl, (refl, (refl, (refl, (refl, (refl, (refl, (refl, (refl, (refl, (refl, (refl, (refl, (refl, (refl, (refl, (refl, (refl, (refl, (refl, (refl, (refl, tt))))))))))))))))))))))))))))
