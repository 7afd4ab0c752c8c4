-- The parts of a node, in the order in which they are written: what its kind still wants, with the marks between, and the tree that is made of them.
use Rattle.std.specs.Prelude.{◌≡◌, ℕ, Bool, true, false, List, [], ◌∷◌, eqb, pos, get_or}
use Rattle.std.proofs.Math.Option.{Option, none, some}
use Rattle.imp.specs.Numbers.{signed32}
use Rattle.imp.specs.Condition.{Condition, trueᶜ}
use Rattle.imp.specs.Routine.{Arithmetic, number, variable, sum, pick, choiceᵃ, Boolean, falseᵇ, trueᵇ, notᵇ, andᵇ, less, choiceᵇ, Statement, skip, assign, sequence, if, while, throw, try, choice}
use Rattle.image.specs.Layout.{layout, class_digit, a_digit, b_digit, c_digit}
use Rattle.image.specs.Tree.{Kind, k_number, k_variable, k_sum, k_pick, k_choiceᵃ, k_falseᵇ, k_trueᵇ, k_notᵇ, k_andᵇ, k_less, k_choiceᵇ, k_skip, k_assign, k_sequence, k_if, k_while, k_throw, k_try, k_choice, k_other, kind_of}
use Rattle.image.specs.Bytes.{Bytes}
use Rattle.written.specs.Token.{Lexeme}
use Rattle.written.specs.Word.{THEN, ELSE, DO, CATCH, WITH, AND, GETS, LEFT, RIGHT, PLUS, BELOW, SEMI, UNBRACE, ASK, COLON, UNBRACKET}
use Rattle.written.specs.Machine.{statements, arithmetics, booleans, conditions, variables, Stack, mark, want}

-- ---- a part: a tree in its own class, and something harmless in the others

pub record Part : Type 0 where
  pub arithmetic : Arithmetic Condition
  pub boolean : Boolean Condition
  pub statement : Statement Condition
  pub condition : Condition

abbrev pub an_arithmetic : Arithmetic Condition → Part
an_arithmetic a = record { arithmetic = a; boolean = falseᵇ; statement = skip; condition = trueᶜ }

abbrev pub a_boolean : Boolean Condition → Part
a_boolean e = record { arithmetic = number (pos 0); boolean = e; statement = skip; condition = trueᶜ }

abbrev pub a_statement : Statement Condition → Part
a_statement s = record { arithmetic = number (pos 0); boolean = falseᵇ; statement = s; condition = trueᶜ }

abbrev pub a_condition : Condition → Part
a_condition c = record { arithmetic = number (pos 0); boolean = falseᵇ; statement = skip; condition = c }

abbrev pub no_part : Part
no_part = a_statement skip

-- ---- what a field holds, by its digit in the layout

pub data Slot : Type 0 where
  empty of_arithmetic of_boolean of_statement of_condition : Slot

unfoldable pub slot_of : ℕ → Slot
slot_of n = get_or (empty ∷ of_arithmetic ∷ of_boolean ∷ of_statement ∷ of_condition ∷ []) n empty

abbrev pub a_slot : ℕ → Slot
a_slot kind = slot_of (a_digit (layout kind))

abbrev pub b_slot : ℕ → Slot
b_slot kind = slot_of (b_digit (layout kind))

abbrev pub c_slot : ℕ → Slot
c_slot kind = slot_of (c_digit (layout kind))

abbrev pub own_slot : ℕ → Slot
own_slot kind = slot_of (class_digit (layout kind))

abbrev pub wants : ℕ → Slot → (Part → Stack) → Stack
wants F empty g = g no_part
wants F of_arithmetic g = want F arithmetics λ a. g (an_arithmetic a)
wants F of_boolean g = want F booleans λ e. g (a_boolean e)
wants F of_statement g = want F statements λ s. g (a_statement s)
wants F of_condition g = want F conditions λ c. g (a_condition c)

-- ---- the marks of a kind: before a, behind a, behind b, behind c

pub record Marking : Type 0 where
  pub before_a : Option Lexeme
  pub behind_a : Option Lexeme
  pub behind_b : Option Lexeme
  pub behind_c : Option Lexeme

abbrev pub row : Option Lexeme → Option Lexeme → Option Lexeme → Option Lexeme → Marking
row w x y z = record { before_a = w; behind_a = x; behind_b = y; behind_c = z }

abbrev pub no_marks : Marking
no_marks = row none none none none

unfoldable pub mark_table : List Marking
mark_table =
    no_marks  -- 0 number
    ∷ no_marks  -- 1 variable
    ∷ row none (some PLUS) (some RIGHT) none  -- 2 sum: ( a + b )
    ∷ row (some LEFT) (some ASK) (some COLON) (some RIGHT)  -- 3 pick: pick ( a ? b : c )
    ∷ row none (some ASK) (some COLON) (some UNBRACKET)  -- 4 choice of arithmetic: [ a ? b : c ]
    ∷ no_marks
    ∷ no_marks
    ∷ no_marks
    ∷ no_marks  -- 8 false
    ∷ no_marks  -- 9 true
    ∷ no_marks  -- 10 not: not a
    ∷ row (some LEFT) (some AND) (some RIGHT) none  -- 11 and: both ( a and b )
    ∷ row none (some BELOW) (some RIGHT) none  -- 12 less: ( a < b )
    ∷ row none (some ASK) (some COLON) (some UNBRACKET)  -- 13 choice of booleans: [ a ? b : c ]
    ∷ no_marks
    ∷ no_marks
    ∷ no_marks  -- 16 skip
    ∷ row (some GETS) none none none  -- 17 assign: v := a
    ∷ row none (some SEMI) (some UNBRACE) none  -- 18 sequence: { a ; b }
    ∷ row none (some THEN) (some ELSE) none  -- 19 if: if a then b else c
    ∷ row none (some DO) none none  -- 20 while: while a do b
    ∷ no_marks  -- 21 throw: throw a
    ∷ no_marks  -- 22 try: try a catch v with b
    ∷ row none (some ASK) (some COLON) (some UNBRACKET)  -- 23 choice of statements: [ a ? b : c ]
    ∷ []

unfoldable pub marks_of : ℕ → Marking
marks_of kind = get_or mark_table kind no_marks

-- the bytes of a mark, of which none has none
abbrev pub text_of : Option Lexeme → Bytes
text_of none = []
text_of (some x) = x.head ∷ x.rest

abbrev pub MarksAre : Bytes → Bytes → Bytes → Bytes → Bytes → Bytes → Bytes → Bytes → Type 0
MarksAre w x y z w' x' y' z' = (w' ≡ w) × (x' ≡ x) × (y' ≡ y) × (z' ≡ z)

abbrev pub MarksOf : ℕ → Bytes → Bytes → Bytes → Bytes → Type 0
MarksOf kind w x y z =
    MarksAre (text_of (marks_of kind).before_a) (text_of (marks_of kind).behind_a) (text_of (marks_of kind).behind_b) (text_of (marks_of kind).behind_c) w x y z

-- a mark, where there is one
abbrev pub marked : Option Lexeme → Stack → Stack
marked none s = s
marked (some x) s = mark x s

-- behind a: a try has its variable there, "catch v with"
abbrev pub behind_a : Bool → ℕ → Option Lexeme → ℕ → (ℕ → Stack) → Stack
behind_a true F o value g = mark CATCH (want F variables λ v. mark WITH (g v))
behind_a false F o value g = marked o (g value)

-- ---- the tree that is made of its parts; the value is a number's 32 bits or a variable

unfoldable pub made_of : Kind → ℕ → Part → Part → Part → Part
made_of k_number v a b c = an_arithmetic (number (signed32 v))
made_of k_variable v a b c = an_arithmetic (variable v)
made_of k_sum v a b c = an_arithmetic (sum a.arithmetic b.arithmetic)
made_of k_pick v a b c = an_arithmetic (pick a.boolean b.arithmetic c.arithmetic)
made_of k_choiceᵃ v a b c = an_arithmetic (choiceᵃ a.condition b.arithmetic c.arithmetic)
made_of k_falseᵇ v a b c = a_boolean falseᵇ
made_of k_trueᵇ v a b c = a_boolean trueᵇ
made_of k_notᵇ v a b c = a_boolean (notᵇ a.boolean)
made_of k_andᵇ v a b c = a_boolean (andᵇ a.boolean b.boolean)
made_of k_less v a b c = a_boolean (less a.arithmetic b.arithmetic)
made_of k_choiceᵇ v a b c = a_boolean (choiceᵇ a.condition b.boolean c.boolean)
made_of k_skip v a b c = a_statement skip
made_of k_assign v a b c = a_statement (assign v a.arithmetic)
made_of k_sequence v a b c = a_statement (sequence a.statement b.statement)
made_of k_if v a b c = a_statement (if a.boolean b.statement c.statement)
made_of k_while v a b c = a_statement (while a.boolean b.statement)
made_of k_throw v a b c = a_statement (throw a.arithmetic)
made_of k_try v a b c = a_statement (try a.statement v b.statement)
made_of k_choice v a b c = a_statement (choice a.condition b.statement c.statement)
made_of k_other v a b c = a_statement skip

-- what is still to come behind the token that opens a node of a kind
unfoldable pub follow : ℕ → ℕ → ℕ → (Part → Stack) → Stack
follow F kind value g =
    marked (marks_of kind).before_a (wants F (a_slot kind) λ a.
    behind_a (eqb kind 22) F (marks_of kind).behind_a value λ v.
    wants F (b_slot kind) λ b.
    marked (marks_of kind).behind_b (wants F (c_slot kind) λ c.
    marked (marks_of kind).behind_c (g (made_of (kind_of kind) v a b c))))
