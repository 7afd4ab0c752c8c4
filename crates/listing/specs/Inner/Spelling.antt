-- How each kind is spelled, sign by sign, and what stands for a sign.
use Rattle.std.specs.Prelude.{ℕ, suc, Bool, cond, List, [], ◌∷◌, ◌++◌, eqb, ℤ, get_or}
use Rattle.image.specs.Bytes.{Bytes}
use Rattle.text.specs.Decimal.{decimal, signed_decimal}
use Rattle.written.specs.Word.{bytes}
use Rattle.written.specs.Lister.{line, gap}

-- ---- the signs of a kind

-- A, B and C are the parts in its fields, a level further in; X and Y those of a sequence, at its own level; K is its condition, V its variable or option,
-- N its number; > and ^ are gaps, further in and not, @ is a line of its own level; a dot is nothing, and any other byte stands for itself
unfoldable pub spellings : List Bytes
spellings =
    bytes "N...................."  -- 0 number
    ∷ bytes "vV..................."  -- 1 variable
    ∷ bytes "(A + B).............."  -- 2 sum
    ∷ bytes "pick (A ? B : C)....."  -- 3 pick
    ∷ bytes "[K ? B : C].........."  -- 4 choice of arithmetic
    ∷ bytes "....................."
    ∷ bytes "....................."
    ∷ bytes "....................."
    ∷ bytes "false................"  -- 8 false
    ∷ bytes "true................."  -- 9 true
    ∷ bytes "not A................"  -- 10 not
    ∷ bytes "both (A and B)......."  -- 11 and
    ∷ bytes "(A < B).............."  -- 12 less
    ∷ bytes "[K ? B : C].........."  -- 13 choice of booleans
    ∷ bytes "....................."
    ∷ bytes "....................."
    ∷ bytes "skip................."  -- 16 skip
    ∷ bytes "vV := A.............."  -- 17 assign
    ∷ bytes "{X ;@Y}.............."  -- 18 sequence
    ∷ bytes "if A then>B^else>C..."  -- 19 if
    ∷ bytes "while A do>B........."  -- 20 while
    ∷ bytes "throw A.............."  -- 21 throw
    ∷ bytes "try>A^catch vV with>B"  -- 22 try
    ∷ bytes "[K ?>B^:>C].........."  -- 23 choice of statements
    ∷ []

unfoldable pub spelling : ℕ → Bytes
spelling kind = get_or spellings kind []

unfoldable pub condition_spellings : List Bytes
condition_spellings =
    bytes "false...."  -- 0 false
    ∷ bytes "true....."  -- 1 true
    ∷ bytes "oV......."  -- 2 option
    ∷ bytes "not A...."  -- 3 not
    ∷ bytes "(A and B)"  -- 4 and
    ∷ bytes "(A or B)."  -- 5 or
    ∷ []

unfoldable pub condition_spelling : ℕ → Bytes
condition_spelling kind = get_or condition_spellings kind []

-- the sign that is nothing, also beyond a spelling's end
abbrev pub DOT : ℕ
DOT = 46

-- ---- what stands for a sign

-- the texts of a record's parts, and what else it holds
pub record Parts : Type 0 where
  pub a : Bytes
  pub b : Bytes
  pub c : Bytes
  pub x : Bytes
  pub y : Bytes
  pub k : Bytes
  pub variable : ℕ
  pub value : ℤ
  pub flat : Bool
  pub level : ℕ

-- for a sign that is no part: by the variable or option, the number, whether all parts are short, and the level
unfoldable pub plainly : ℕ → ℤ → Bool → ℕ → ℕ → Bytes
plainly variable value flat level s =
    cond (eqb s 86) (decimal variable)  -- V
    (cond (eqb s 78) (signed_decimal value)  -- N
    (cond (eqb s 62) (gap flat (suc level))  -- >
    (cond (eqb s 94) (gap flat level)  -- ^
    (cond (eqb s 64) (line level)  -- @
    (cond (eqb s 46) [] (s ∷ []))))))

unfoldable pub stands : Parts → ℕ → Bytes
stands p s =
    cond (eqb s 65) p.a
    (cond (eqb s 66) p.b
    (cond (eqb s 67) p.c
    (cond (eqb s 88) p.x
    (cond (eqb s 89) p.y
    (cond (eqb s 75) p.k
    (plainly p.variable p.value p.flat p.level s))))))

unfoldable pub spell : Parts → Bytes → Bytes
spell p [] = []
spell p (s ∷ signs) = stands p s ++ spell p signs
