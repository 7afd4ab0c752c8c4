-- Closed cases of the lister, by computation: how routines look laid out.
use Rattle.std.specs.Prelude.{◌≡◌, refl, ℕ, List, [], ◌∷◌, ◌++◌, pos, negsuc}
use Prim.Native.String.{String}
use Rattle.imp.specs.Condition.{Condition, option, trueᶜ, falseᶜ, andᶜ, orᶜ, notᶜ}
use Rattle.imp.specs.Routine.{Arithmetic, number, variable, sum, pick, choiceᵃ, falseᵇ, trueᵇ, notᵇ, andᵇ, less, choiceᵇ, Statement, skip, assign, sequence, if, while, throw, try, choice}
use Rattle.imp.proofs.Theorem.Table.{H}
use Rattle.image.specs.Bytes.{Bytes}
use Rattle.text.specs.Decimal.{digits, decimal, signed_decimal}
use Rattle.written.specs.Word.{bytes}
use Rattle.written.specs.Lister.{listedᶜ, listedᵃ, spaces, line, gap, shortᵃ, short, listedˢ, listed}

opened : Unit {0}
unfolding digits decimal signed_decimal listedᶜ listedᵃ spaces line gap shortᵃ short listedˢ listed
opened = tt

-- each line with its end
abbrev laid : List String → Bytes
laid [] = []
laid (s ∷ rest) = bytes s ++ (10 ∷ laid rest)

abbrev num : ℕ → Arithmetic Condition
num n = number (pos n)

-- the routine H of document 01
h_listed : listed 1 H ≡ laid ("options 1" ∷ "{v0 := [o0 ? 380 : 310] ;" ∷ "if (350 < v0) then throw 7 else skip}" ∷ [])
unfolding opened H
h_listed = refl

-- routines/overheat.txt: option 0 is the slide, option 1 the paddling pool
overheat : Statement Condition
overheat =
    sequence
    (assign 0 (choiceᵃ (option 1) (num 380) (num 310)))
    (try
    (sequence
    (if (less (num 350) (variable 0)) (throw (num 7)) skip)
    (choice (option 0) (if (less (variable 3) (num 1)) (throw (num 3)) skip) skip))
    1
    (choice (option 0) (assign 2 (num 1)) (throw (variable 1))))

overheat_listed : listed 2 overheat
    ≡ laid (
    "options 2"
    ∷ "{v0 := [o1 ? 380 : 310] ;"
    ∷ "try"
    ∷ "  {if (350 < v0) then throw 7 else skip ;"
    ∷ "  [o0 ?"
    ∷ "    if (v3 < 1) then throw 3 else skip"
    ∷ "  :"
    ∷ "    skip]}"
    ∷ "catch v1 with"
    ∷ "  [o0 ? v2 := 1 : throw v1]}"
    ∷ []
    )
unfolding opened overheat
overheat_listed = refl

-- a try in a try, each kind of condition and of expression, and a loop
nested : Statement Condition
nested =
    try
    (try (while (andᵇ (notᵇ trueᵇ) (less (variable 15) (number (negsuc 4)))) skip) 10 (throw (sum (variable 10) (num 1))))
    11
    (choice (orᶜ (andᶜ (option 0) trueᶜ) (notᶜ (option 5)))
    (assign 1 (pick (choiceᵇ falseᶜ falseᵇ trueᵇ) (num 1) (variable 2)))
    (try skip 0 skip))

nested_listed : listed 6 nested
    ≡ laid (
    "options 6"
    ∷ "try"
    ∷ "  try"
    ∷ "    while both (not true and (v15 < -5)) do skip"
    ∷ "  catch v10 with"
    ∷ "    throw (v10 + 1)"
    ∷ "catch v11 with"
    ∷ "  [((o0 and true) or not o5) ?"
    ∷ "    v1 := pick ([false ? false : true] ? 1 : v2)"
    ∷ "  :"
    ∷ "    try skip catch v0 with skip]"
    ∷ []
    )
unfolding opened nested
nested_listed = refl
