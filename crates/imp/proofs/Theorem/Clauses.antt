-- A second witness for conditions and expressions: values worked out by hand from document 01, of clauses that both runs and the rules share,
-- where a fault made alike everywhere would pass. `ClausesState` is the same for what statements do.
use Rattle.std.specs.Prelude.{◌≡◌, ℕ, zero, suc, Bool, true, false, [], ◌∷◌, ℤ, pos, negsuc, refl}
use Rattle.sets.specs.Member.{digit, bit}
use Rattle.imp.specs.Condition.{Condition, falseᶜ, trueᶜ, option, notᶜ, andᶜ, orᶜ, on_in, holds}
use Rattle.imp.specs.Routine.{Arithmetic, number, variable, sum, pick, choiceᵃ, skip, throw, choice, Boolean, falseᵇ, trueᵇ, notᵇ, andᵇ, less, choiceᵇ}
use Rattle.imp.specs.Configure.{configure, configureᵃ, configureᵇ}
use Rattle.imp.specs.Numbers.{low32, signed32, wrap}
use Rattle.imp.specs.State.{Numbers}
use Rattle.imp.specs.Plain.{value, truth}
use Rattle.imp.specs.Shared.{value_in, truth_in}

-- opens all that conditions and expressions compute with
unfoldable pub opened : Unit {0}
unfolding digit bit on_in holds low32 signed32 wrap value value_in configureᵃ configure
opened = tt

-- ---- conditions, by the settings 0 to 3 in which they hold

abbrev Holds : Condition → Bool → Bool → Bool → Bool → Type 0
Holds c a b d e = holds c 0 ∷ holds c 1 ∷ holds c 2 ∷ holds c 3 ∷ [] ≡ a ∷ b ∷ d ∷ e ∷ []

-- "Option k is on in setting s exactly when bit k of s (weight 2^k) is one."
pub options :
    Holds (option 0) false true false true
    × Holds (option 1) false false true true
    × (holds (option 5) 32 ≡ true)
    × (holds (option 5) 31 ≡ false)
unfolding opened
options = (refl, refl, refl, refl)

-- "Kinds: 0 false, 1 true, 2 option, 3 not (left), 4 and, 5 or (left, right)."
pub conditions :
    Holds falseᶜ false false false false
    × Holds trueᶜ true true true true
    × Holds (notᶜ (option 0)) true false true false
    × Holds (notᶜ (option 1)) true true false false
    × Holds (andᶜ (option 0) (option 1)) false false false true
    × Holds (andᶜ (option 1) (notᶜ (option 0))) false false true false
    × Holds (orᶜ (option 0) (option 1)) false true true true
    × Holds (orᶜ (option 1) (notᶜ (option 0))) true false true true
unfolding opened
conditions = (refl, refl, refl, refl, refl, refl, refl, refl)

-- ---- expressions in setting 1, option 0 on and option 1 off: variable 0 is 7, variable 1 is -1

abbrev pub minus : ℕ → ℤ
minus zero = pos zero
minus (suc n) = negsuc n

abbrev num : ℕ → Arithmetic Condition
num n = number (pos n)

abbrev neg : ℕ → Arithmetic Condition
neg n = number (minus n)

abbrev numbers : Numbers
numbers = pos 7 ∷ minus 1 ∷ []

-- an expression's value in the shared run, and of the configured one in the plain run
abbrev Gives : Arithmetic Condition → ℤ → Type 0
Gives a n = value_in 1 a numbers ∷ value (configureᵃ 1 a) numbers ∷ [] ≡ n ∷ n ∷ []

abbrev Tells : Boolean Condition → Bool → Type 0
Tells e b = truth_in 1 e numbers ∷ truth (configureᵇ 1 e) numbers ∷ [] ≡ b ∷ b ∷ []

-- "| 8, 9 | false, true | none |", "| 10 | not | a boolean |", "| 11 | and | a, b boolean |"
pub booleans :
    Tells falseᵇ false
    × Tells trueᵇ true
    × Tells (notᵇ falseᵇ) true
    × Tells (notᵇ trueᵇ) false
    × Tells (andᵇ falseᵇ falseᵇ) false
    × Tells (andᵇ falseᵇ trueᵇ) false
    × Tells (andᵇ trueᵇ falseᵇ) false
    × Tells (andᵇ trueᵇ trueᵇ) true
unfolding opened
booleans = (refl, refl, refl, refl, refl, refl, refl, refl)

-- "less compares signed": -1 is less than 7, the least number than the greatest, and none than itself
pub comparisons :
    Tells (less (variable 1) (variable 0)) true
    × Tells (less (variable 0) (variable 1)) false
    × Tells (less (variable 0) (num 7)) false
    × Tells (less (variable 1) (neg 1)) false
    × Tells (less (neg 2) (neg 1)) true
    × Tells (less (neg 1) (neg 2)) false
    × Tells (less (num 6) (num 7)) true
    × Tells (less (num 7) (num 6)) false
    × Tells (less (neg 2147483648) (num 2147483647)) true
    × Tells (less (num 2147483647) (neg 2147483648)) false
unfolding opened
comparisons = (refl, refl, refl, refl, refl, refl, refl, refl, refl, refl)

-- "A sum that leaves the range wraps modulo 2^32 into the signed range"
pub sums :
    Gives (sum (variable 0) (variable 1)) (pos 6)
    × Gives (sum (num 5) (neg 7)) (minus 2)
    × Gives (sum (num 2147483646) (num 1)) (pos 2147483647)
    × Gives (sum (num 2147483647) (num 1)) (minus 2147483648)
    × Gives (sum (num 2147483647) (num 2147483647)) (minus 2)
    × Gives (sum (neg 2147483647) (neg 1)) (minus 2147483648)
    × Gives (sum (neg 2147483648) (neg 1)) (pos 2147483647)
    × Gives (sum (neg 2147483648) (neg 2147483648)) (pos 0)
unfolding opened
sums = (refl, refl, refl, refl, refl, refl, refl, refl)

-- "| 3 | pick | a boolean; b if true, c if false, arithmetic |"
pub picks :
    Gives (pick trueᵇ (num 1) (num 2)) (pos 1)
    × Gives (pick falseᵇ (num 1) (num 2)) (pos 2)
    × Gives (pick (less (variable 1) (variable 0)) (num 1) (num 2)) (pos 1)
unfolding opened
picks = (refl, refl, refl)

-- "Configuring for setting s replaces each choice by b if s is in its condition, else by c."
pub choices :
    Gives (choiceᵃ (option 0) (num 1) (num 2)) (pos 1)
    × Gives (choiceᵃ (option 1) (num 1) (num 2)) (pos 2)
    × Tells (choiceᵇ (option 0) trueᵇ falseᵇ) true
    × Tells (choiceᵇ (option 1) trueᵇ falseᵇ) false
    × (configure 1 (choice (option 0) skip (throw (num 3))) ≡ skip)
    × (configure 1 (choice (option 1) skip (throw (num 3))) ≡ throw (number (pos 3)))
unfolding opened
choices = (refl, refl, refl, refl, refl, refl)
