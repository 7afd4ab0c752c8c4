-- What each kind holds: document 01's two tables of kinds, a row of octal digits for each kind.
use Rattle.std.specs.Prelude.{ℕ, ◌/◌, ◌%◌, Bool, ◌&&◌, cond, List, [], ◌∷◌, eqb, ltb, get_or}

-- ---- nodes: class, variable, a, b, c

-- the class of a node, and what a field holds: 0 nothing ("Fields which a kind does not use are zero"), 1 a node of arithmetic, 2 of booleans,
-- 3 of statements, 4 a condition; a variable's digit is 1 where the kind has one
unfoldable pub kinds : List ℕ
kinds =
    0o10000  -- 0 number
    ∷ 0o11000  -- 1 variable
    ∷ 0o10110  -- 2 sum
    ∷ 0o10211  -- 3 pick
    ∷ 0o10411  -- 4 choice of arithmetic
    ∷ 0o00000
    ∷ 0o00000
    ∷ 0o00000
    ∷ 0o20000  -- 8 false
    ∷ 0o20000  -- 9 true
    ∷ 0o20200  -- 10 not
    ∷ 0o20220  -- 11 and
    ∷ 0o20110  -- 12 less
    ∷ 0o20422  -- 13 choice of booleans
    ∷ 0o00000
    ∷ 0o00000
    ∷ 0o30000  -- 16 skip
    ∷ 0o31100  -- 17 assign
    ∷ 0o30330  -- 18 sequence
    ∷ 0o30233  -- 19 if
    ∷ 0o30230  -- 20 while
    ∷ 0o30100  -- 21 throw
    ∷ 0o31330  -- 22 try
    ∷ 0o30433  -- 23 choice of statements
    ∷ []

-- "All other kinds are refused": they have class 0
unfoldable pub layout : ℕ → ℕ
layout kind = get_or kinds kind 0

abbrev pub class_digit : ℕ → ℕ
class_digit digits = digits / 4096 % 8

abbrev pub variable_digit : ℕ → ℕ
variable_digit digits = digits / 512 % 8

abbrev pub a_digit : ℕ → ℕ
a_digit digits = digits / 64 % 8

abbrev pub b_digit : ℕ → ℕ
b_digit digits = digits / 8 % 8

abbrev pub c_digit : ℕ → ℕ
c_digit digits = digits % 8

-- the field names a node
unfoldable pub names_node : ℕ → Bool
names_node slot = ltb 0 slot && ltb slot 4

-- a choice: its field a is a condition
unfoldable pub is_choice : ℕ → Bool
is_choice kind = eqb (a_digit (layout kind)) 4

-- ---- conditions: whether the kind is known, option, left, right

unfoldable pub condition_kinds : List ℕ
condition_kinds =
    0o1000  -- 0 false
    ∷ 0o1000  -- 1 true
    ∷ 0o1100  -- 2 option
    ∷ 0o1010  -- 3 not
    ∷ 0o1011  -- 4 and
    ∷ 0o1011  -- 5 or
    ∷ []

unfoldable pub condition_layout : ℕ → ℕ
condition_layout kind = get_or condition_kinds kind 0

-- a field that is not used is zero, and one that is used is below its bound
unfoldable pub field_fits : ℕ → ℕ → ℕ → Bool
field_fits digit value bound = cond (eqb digit 0) (eqb value 0) (ltb value bound)
