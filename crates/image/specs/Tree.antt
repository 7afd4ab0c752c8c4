-- From bytes to tree: the routine that an image is, with its conditions written out. Each record is read from the trees of the records before it, so
-- the definition is total; what it makes up for a name that is not lower, or a child of another class, the check has ruled out.
use Rattle.std.specs.Prelude.{ℕ, zero, suc, ◌-◌, [], ◌∷◌, eqb, pos, get_or}
use Rattle.imp.specs.Numbers.{signed32}
use Rattle.imp.specs.State.{branch}
use Rattle.imp.specs.Condition as Routine
use Rattle.imp.specs.Condition.{Condition}
use Rattle.imp.specs.Routine.{Arithmetic, number, variable, sum, pick, choiceᵃ, Boolean, falseᵇ, trueᵇ, notᵇ, andᵇ, less, choiceᵇ, Statement, skip, assign, sequence, if, while, throw, try, choice}
use Rattle.image.specs.declared.records.ConditionRecord.{ConditionRecord}
use Rattle.image.specs.declared.records.Node.{Node}
use Rattle.image.specs.Bytes.{Bytes}
use Rattle.image.specs.Records.{header, condition_record, node}

-- ---- conditions

pub data ConditionKind : Type 0 where
  k_false k_true k_option k_not k_and k_or k_none : ConditionKind

-- "Kinds: 0 false, 1 true, 2 option, 3 not (left), 4 and, 5 or (left, right)."
unfoldable pub condition_kind : ℕ → ConditionKind
condition_kind k = get_or (k_false ∷ k_true ∷ k_option ∷ k_not ∷ k_and ∷ k_or ∷ []) k k_none

-- a condition's tree, where `at` gives those of the conditions before it
unfoldable pub condition_reading : ConditionKind → (ℕ → Condition) → ConditionRecord → Condition
condition_reading k_false at r = Routine.falseᶜ
condition_reading k_true at r = Routine.trueᶜ
condition_reading k_option at r = Routine.option r.option
condition_reading k_not at r = Routine.notᶜ (at r.left)
condition_reading k_and at r = Routine.andᶜ (at r.left) (at r.right)
condition_reading k_or at r = Routine.orᶜ (at r.left) (at r.right)
condition_reading k_none at r = Routine.falseᶜ

-- the tree of condition k, from those below n
unfoldable pub condition_below : Bytes → ℕ → ℕ → Condition
condition_below l zero k = Routine.falseᶜ
condition_below l (suc n) k =
    branch (eqb k n) (λ _. condition_reading (condition_kind (condition_record l n).kind) (condition_below l n) (condition_record l n)) (λ _. condition_below l n k) Routine.falseᶜ

unfoldable pub condition : Bytes → ℕ → Condition
condition l k = condition_reading (condition_kind (condition_record l k).kind) (condition_below l k) (condition_record l k)

-- ---- nodes

pub data Kind : Type 0 where
  k_number k_variable k_sum k_pick k_choiceᵃ : Kind
  k_falseᵇ k_trueᵇ k_notᵇ k_andᵇ k_less k_choiceᵇ : Kind
  k_skip k_assign k_sequence k_if k_while k_throw k_try k_choice : Kind
  k_other : Kind

unfoldable pub kind_of : ℕ → Kind
kind_of k = get_or (
    k_number
    ∷ k_variable
    ∷ k_sum
    ∷ k_pick
    ∷ k_choiceᵃ
    ∷ k_other
    ∷ k_other
    ∷ k_other
    ∷ k_falseᵇ
    ∷ k_trueᵇ
    ∷ k_notᵇ
    ∷ k_andᵇ
    ∷ k_less
    ∷ k_choiceᵇ
    ∷ k_other
    ∷ k_other
    ∷ k_skip
    ∷ k_assign
    ∷ k_sequence
    ∷ k_if
    ∷ k_while
    ∷ k_throw
    ∷ k_try
    ∷ k_choice
    ∷ []) k k_other

-- what is read of a node: its tree in its own class, and something harmless in the other two
pub record Read : Type 0 where
  pub arithmetic : Arithmetic Condition
  pub boolean : Boolean Condition
  pub statement : Statement Condition

abbrev pub an_arithmetic : Arithmetic Condition → Read
an_arithmetic a = record { arithmetic = a; boolean = falseᵇ; statement = skip }

abbrev pub a_boolean : Boolean Condition → Read
a_boolean e = record { arithmetic = number (pos 0); boolean = e; statement = skip }

abbrev pub a_statement : Statement Condition → Read
a_statement s = record { arithmetic = number (pos 0); boolean = falseᵇ; statement = s }

-- a node's tree, where `at` gives what is read of the nodes before it and `of` the conditions
unfoldable pub reading : Kind → (ℕ → Condition) → (ℕ → Read) → Node → Read
reading k_number of at ν = an_arithmetic (number (signed32 ν.value))
reading k_variable of at ν = an_arithmetic (variable ν.variable)
reading k_sum of at ν = an_arithmetic (sum (at ν.a).arithmetic (at ν.b).arithmetic)
reading k_pick of at ν = an_arithmetic (pick (at ν.a).boolean (at ν.b).arithmetic (at ν.c).arithmetic)
reading k_choiceᵃ of at ν = an_arithmetic (choiceᵃ (of ν.a) (at ν.b).arithmetic (at ν.c).arithmetic)
reading k_falseᵇ of at ν = a_boolean falseᵇ
reading k_trueᵇ of at ν = a_boolean trueᵇ
reading k_notᵇ of at ν = a_boolean (notᵇ (at ν.a).boolean)
reading k_andᵇ of at ν = a_boolean (andᵇ (at ν.a).boolean (at ν.b).boolean)
reading k_less of at ν = a_boolean (less (at ν.a).arithmetic (at ν.b).arithmetic)
reading k_choiceᵇ of at ν = a_boolean (choiceᵇ (of ν.a) (at ν.b).boolean (at ν.c).boolean)
reading k_skip of at ν = a_statement skip
reading k_assign of at ν = a_statement (assign ν.variable (at ν.a).arithmetic)
reading k_sequence of at ν = a_statement (sequence (at ν.a).statement (at ν.b).statement)
reading k_if of at ν = a_statement (if (at ν.a).boolean (at ν.b).statement (at ν.c).statement)
reading k_while of at ν = a_statement (while (at ν.a).boolean (at ν.b).statement)
reading k_throw of at ν = a_statement (throw (at ν.a).arithmetic)
reading k_try of at ν = a_statement (try (at ν.a).statement ν.variable (at ν.b).statement)
reading k_choice of at ν = a_statement (choice (of ν.a) (at ν.b).statement (at ν.c).statement)
reading k_other of at ν = a_statement skip

-- what is read of node k, from those below n
unfoldable pub read_below : Bytes → ℕ → ℕ → Read
read_below l zero k = a_statement skip
read_below l (suc n) k =
    branch (eqb k n) (λ _. reading (kind_of (node l n).kind) (condition l) (read_below l n) (node l n)) (λ _. read_below l n k) (a_statement skip)

unfoldable pub read : Bytes → ℕ → Read
read l n = reading (kind_of (node l n).kind) (condition l) (read_below l n) (node l n)

-- "the last is the root"
unfoldable pub routine : Bytes → Statement Condition
routine l = (read l ((header l).nodes - 1)).statement
