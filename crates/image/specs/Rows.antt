-- The table of refusals, rows 1 to 8, and how a table is read: "A number is given exactly when its condition holds and no earlier test fails".
use Rattle.std.specs.Prelude.{ℕ, zero, suc, ◌+◌, ◌-◌, ◌*◌, ◌/◌, ◌%◌, ◌≡◌, Bool, true, false, not, ◌&&◌, ◌||◌, cond, List, [], ◌∷◌, ◌++◌, map, eqb, ltb, length}
use Rattle.image.specs.declared.records.Header.{Header}
use Rattle.image.specs.declared.records.ConditionRecord.{ConditionRecord}
use Rattle.image.specs.declared.records.Node.{Node}
use Rattle.image.specs.Bytes.{Bytes}
use Rattle.image.specs.Records.{header, condition_record, node}
use Rattle.image.specs.Layout.{layout, class_digit, variable_digit, a_digit, b_digit, c_digit, names_node, condition_layout, field_fits}

-- ---- how a table is read

-- a row: its number, whether its test fails, and its place
pub record Row : Type 0 where
  pub number : ℕ
  pub fails : Bool
  pub place : ℕ

-- what a call answers: a refusal's number and place, or what it was called for
pub data Answer (A : Type 0) : Type 0 where
  refused : ℕ → ℕ → Answer A
  answer : A → Answer A

-- the first row that fails decides; where none does the call is carried out
unfoldable pub judge : {A : Type 0} → List Row → A → Answer A
judge [] x = answer x
judge (r ∷ rows) x = cond r.fails (refused r.number r.place) (judge rows x)

-- "A refusal writes nothing": what a call may write is `new` if it is carried out, and stays `old` if it is refused
unfoldable pub written : {A : Type 0} → List Row → A → A → A
written [] new old = new
written (r ∷ rows) new old = cond r.fails old (written rows new old)

-- no row fails
abbrev pub NoneFails : List Row → Type 0
NoneFails [] = Unit {0}
NoneFails (r ∷ rows) = (r.fails ≡ false) × NoneFails rows

-- the number n and the place p are those of a row that fails, and no earlier row does
pub record Given (rows : List Row) (n p : ℕ) : Type 0 where
  pub earlier : List Row
  pub this : Row
  pub later : List Row
  pub in_order : rows ≡ earlier ++ (this ∷ later)
  pub none_earlier : NoneFails earlier
  pub fails : this.fails ≡ true
  pub number_is : this.number ≡ n
  pub place_is : this.place ≡ p

-- the numbers of a table, in order; 1 to 8, and then more
abbrev pub numbers : List Row → List ℕ
numbers rows = map (λ (r : Row). r.number) rows

abbrev pub then : List ℕ → List ℕ
then more = 1 ∷ 2 ∷ 3 ∷ 4 ∷ 5 ∷ 6 ∷ 7 ∷ 8 ∷ more

-- the lowest k below n that is bad, and n where there is none
unfoldable pub lowest_from : ℕ → ℕ → (ℕ → Bool) → ℕ
lowest_from zero k bad = k
lowest_from (suc n) k bad = cond (bad k) k (lowest_from n (suc k) bad)

unfoldable pub lowest : ℕ → (ℕ → Bool) → ℕ
lowest n bad = lowest_from n 0 bad

-- a row at place 0, and a row at the lowest bad record
abbrev pub row : ℕ → Bool → Row
row number fails = record { number = number; fails = fails; place = 0 }

abbrev pub lowest_row : ℕ → ℕ → (ℕ → Bool) → Row
lowest_row number n bad = record { number = number; fails = ltb (lowest n bad) n; place = lowest n bad }

-- ---- rows 1 to 4: the header

-- 1: "image under 8 bytes"
unfoldable pub short : Bytes → Bool
short l = ltb (length l) 8

-- 2: "edition not 1, or header zero bits set"
unfoldable pub edition_wrong : Header → Bool
edition_wrong h = not (eqb h.edition 1) || not (eqb h.zero 0)

-- 3: "F > 6, C > 256, P = 0 or P > 1,024"
unfoldable pub counts_wrong : Header → Bool
counts_wrong h = ltb 6 h.options || (ltb 256 h.conditions || (eqb h.nodes 0 || ltb 1024 h.nodes))

-- 4: "length not 8 + 4C + 8P"
unfoldable pub length_wrong : Bytes → Header → Bool
length_wrong l h = not (eqb (length l) (8 + 4 * h.conditions + 8 * h.nodes))

-- ---- row 5: conditions

-- "condition: kind, option not below F, name not lower, unused field set"
unfoldable pub condition_fits : ℕ → ℕ → ConditionRecord → Bool
condition_fits options k r =
    let digits : ℕ = condition_layout r.kind in
    not (eqb digits 0) && (field_fits (digits / 64 % 8) r.option options && (field_fits (digits / 8 % 8) r.left k && field_fits (digits % 8) r.right k))

-- ---- row 6: nodes

-- a node's name is lower, a condition's number below C
unfoldable pub slot_fits : ℕ → ℕ → ℕ → ℕ → Bool
slot_fits conditions n slot value = field_fits slot value (cond (names_node slot) n conditions)

-- "node: kind, node name not lower, condition number not below C, variable over 15, unused field set"
unfoldable pub node_fits : ℕ → ℕ → Node → Bool
node_fits conditions n ν =
    let digits : ℕ = layout ν.kind in
    cond (eqb ν.kind 0) (eqb ν.high 0)
    (not (eqb digits 0) && (eqb ν.zero 0 && (field_fits (variable_digit digits) ν.variable 16
    && (slot_fits conditions n (a_digit digits) ν.a && (slot_fits conditions n (b_digit digits) ν.b && slot_fits conditions n (c_digit digits) ν.c)))))

-- ---- row 7: classes

unfoldable pub class : Bytes → ℕ → ℕ
class l n = class_digit (layout (node l n).kind)

-- a field that names a node names one of its class
unfoldable pub slot_classed : Bytes → ℕ → ℕ → Bool
slot_classed l slot value = cond (names_node slot) (eqb (class l value) slot) true

-- "a child of the wrong class, or the root is no statement"
unfoldable pub classed : Bytes → ℕ → Bool
classed l n =
    let ν : Node = node l n in
    let digits : ℕ = layout ν.kind in
    (slot_classed l (a_digit digits) ν.a && (slot_classed l (b_digit digits) ν.b && slot_classed l (c_digit digits) ν.c))
    && cond (eqb (suc n) (header l).nodes) (eqb (class l n) 3) true

-- ---- row 8: names

-- how often a field, a node, and the first n nodes name node k
unfoldable pub slot_names : ℕ → ℕ → ℕ → ℕ
slot_names slot value k = cond (names_node slot && eqb value k) 1 0

unfoldable pub node_names : Node → ℕ → ℕ
node_names ν k =
    let digits : ℕ = layout ν.kind in
    slot_names (a_digit digits) ν.a k + (slot_names (b_digit digits) ν.b k + slot_names (c_digit digits) ν.c k)

unfoldable pub names : Bytes → ℕ → ℕ → ℕ
names l zero k = 0
names l (suc n) k = names l n k + node_names (node l n) k

-- "a node before the last named never or more than once"
unfoldable pub named_wrong : Bytes → ℕ → Bool
named_wrong l k = not (eqb (names l (header l).nodes k) 1)

-- ---- the check

-- "Tests 1 to 8 go in that order, each over the whole image before the next."
unfoldable pub check_rows : Bytes → List Row
check_rows l =
    let h : Header = header l in
    row 1 (short l)
    ∷ row 2 (edition_wrong h)
    ∷ row 3 (counts_wrong h)
    ∷ row 4 (length_wrong l h)
    ∷ lowest_row 5 h.conditions (λ k. not (condition_fits h.options k (condition_record l k)))
    ∷ lowest_row 6 h.nodes (λ n. not (node_fits h.conditions n (node l n)))
    ∷ lowest_row 7 h.nodes (λ n. not (classed l n))
    ∷ lowest_row 8 (h.nodes - 1) (named_wrong l)
    ∷ []
