-- Counts up to 257, of conditions and of nodes as they were read.
use mathlib.Core.Path.{◌≡◌, refl, ap}
use mathlib.Core.Bool.{Bool, true, false, cond}
use mathlib.Core.List.{List}
use Prim.Native.Nat.{ℕ, min, ◌+◌, ◌/◌, ◌%◌, ◌≤◌, ◌<◌}
use native.Mathlib.Omega.{arith}
use lib.Dec.{eqb}
use lib.ListN.{length, get_or}
use borrow.Author.Tests.{eqb-true, ltb-true}
use Rattle.image.specs.declared.records.ConditionRecord.{ConditionRecord}
use Rattle.image.specs.declared.records.Node.{Node}
use Rattle.image.specs.Bytes.{Bytes}
use Rattle.image.specs.Records.{header, condition_record, node}
use Rattle.image.specs.Layout.{kinds, layout, a_digit, b_digit, c_digit, names_node, condition_layout, field_fits}
use Rattle.image.specs.Rows.{node_fits, slot_fits}
use Rattle.image.specs.Tree.{condition}
use Rattle.image.proofs.Theorem.Lower.{fitted, Fitted, lower}
use Rattle.image.proofs.Theorem.ConditionHeld.{left_below, right_below}
use Rattle.image.proofs.Theorem.Listed.{by_test}
use Rattle.written.specs.Count.{sizeᶜ}
use Rattle.listing.specs.Inner.Counting.{capped, Sizing, node_records, field_records, Counting, Field}
use Rattle.listing.proofs.Theorem.Counted.{held, node_counted, named_size, condition_sized}

-- ---- a condition as it was read

module _ {l : Bytes} {k : ℕ} {sizes : List ℕ} {r : ConditionRecord} {digits : ℕ}
    (pre : Sizing l k sizes) (is : r ≡ condition_record l k) (lay : digits ≡ condition_layout r.kind) where
  left_low : digits / 8 % 8 ≡ 1 → r.left < k
  left_low = rw (lay, is) (left_below (header l).options k (condition_record l k) (pre.accepted.conditions_fit k pre.condition_below) _ refl)

  right_low : digits % 8 ≡ 1 → r.right < k
  right_low = rw (lay, is) (right_below (header l).options k (condition_record l k) (pre.accepted.conditions_fit k pre.condition_below) _ refl)

  pub left_there : digits / 8 % 8 ≡ 1 → r.left < length sizes
  left_there e = omega (arith, left_low e, pre.before.kept)

  pub right_there : digits % 8 ≡ 1 → r.right < length sizes
  right_there e = omega (arith, right_low e, pre.before.kept)

  in-name : (digit value : ℕ) → (digit ≡ 1 → value < k) → cond (eqb digit 1) (get_or sizes value 0) 0 ≡ capped (named_size (condition l) digit value)
  unfolding named_size
  in-name digit value low =
      by_test (eqb digit 1) (λ u. cond u (get_or sizes value 0) 0 ≡ min (cond u (sizeᶜ (condition l value)) 0) 257)
      (λ e. pre.before.right value (low (eqb-true digit 1 e))) (λ e. omega arith)

  total : sizeᶜ (condition l k) ≡ named_size (condition l) (digits / 8 % 8) r.left + named_size (condition l) (digits % 8) r.right + 1
  total = rw (lay, is) (condition_sized l pre.accepted k pre.condition_below)

  pub whole_size : {x y : ℕ} → x ≡ cond (eqb (digits / 8 % 8) 1) (get_or sizes r.left 0) 0 → y ≡ cond (eqb (digits % 8) 1) (get_or sizes r.right 0) 0
      → (x ≤ 257) × (y ≤ 257) × ((all : ℕ) → all ≡ x + y + 1 → capped all ≡ capped (sizeᶜ (condition l k)))
  whole_size p q =
      let a = in-name (digits / 8 % 8) r.left left_low in
      let b = in-name (digits % 8) r.right right_low in
      (omega (arith, p, a), omega (arith, q, b), λ all e. omega (arith, e, p, q, a, b, total))

-- ---- a node as it was read

-- a field that holds a condition's number
slot_low : (C n slot value : ℕ) → slot_fits C n slot value ≡ true → slot ≡ 4 → value < C
unfolding slot_fits field_fits names_node
slot_low C n slot value h e = ltb-true value C (rw e at h)

record InConditions (C : ℕ) (ν : Node) : Type 0 where
  a_in : a_digit (layout ν.kind) ≡ 4 → ν.a < C
  b_in : b_digit (layout ν.kind) ≡ 4 → ν.b < C
  c_in : c_digit (layout ν.kind) ≡ 4 → ν.c < C

in-conditions : (C n : ℕ) (ν : Node) → node_fits C n ν ≡ true → InConditions C ν
unfolding layout kinds
in-conditions C n ν fits = go (eqb ν.kind 0) refl
  where
    go : (u : Bool) → eqb ν.kind 0 ≡ u → InConditions C ν
    go true e =
        let none : layout ν.kind ≡ layout 0 = ap layout (eqb-true ν.kind 0 e) in
        record { a_in = λ h. absurd (omega (arith, none)); b_in = λ h. absurd (omega (arith, none)); c_in = λ h. absurd (omega (arith, none)) }
    go false e =
        let f : Fitted C n ν = fitted C n ν fits e in
        record { a_in = slot_low C n _ ν.a f.a_fits; b_in = slot_low C n _ ν.b f.b_fits; c_in = slot_low C n _ ν.c f.c_fits }

module _ {l : Bytes} {n : ℕ} {sizes records : List ℕ} {ν : Node} {digits : ℕ}
    (pre : Counting l n sizes records) (is : ν ≡ node l n) (lay : digits ≡ layout ν.kind) where
  abbrev fits : node_fits (header l).conditions n (node l n) ≡ true
  fits = pre.accepted.nodes_fit n pre.node_below

  field : (slot value : ℕ) → (names_node slot ≡ true → value < n) → (slot ≡ 4 → value < (header l).conditions) → Field slot value sizes records
  field slot value low held_in = record {
    node_there = λ e. omega (arith, low e, pre.before.kept);
    condition_there = λ e. omega (arith, held_in e, pre.sizes_are.kept);
  }

  pub field_a : Field (a_digit digits) ν.a sizes records
  field_a = rw (lay, is) (field _ _ (lower _ n (node l n) fits).a_lower (in-conditions _ n (node l n) fits).a_in)

  pub field_b : Field (b_digit digits) ν.b sizes records
  field_b = rw (lay, is) (field _ _ (lower _ n (node l n) fits).b_lower (in-conditions _ n (node l n) fits).b_in)

  pub field_c : Field (c_digit digits) ν.c sizes records
  field_c = rw (lay, is) (field _ _ (lower _ n (node l n) fits).c_lower (in-conditions _ n (node l n) fits).c_in)

  looked_up : (slot value : ℕ) → (names_node slot ≡ true → value < n) → (slot ≡ 4 → value < (header l).conditions)
      → cond (names_node slot) (get_or records value 0) (cond (eqb slot 4) (get_or sizes value 0) 0) ≡ capped (held l slot value)
  unfolding held field_records
  looked_up slot value low held_in =
      by_test (names_node slot)
      (λ u. cond u (get_or records value 0) (cond (eqb slot 4) (get_or sizes value 0) 0) ≡ min (cond u (node_records l value) (cond (eqb slot 4) (sizeᶜ (condition l value)) 0)) 257)
      (λ e. pre.before.right value (low e))
      (λ _. by_test (eqb slot 4) (λ u. cond u (get_or sizes value 0) 0 ≡ min (cond u (sizeᶜ (condition l value)) 0) 257)
      (λ e. pre.sizes_are.right value (held_in (eqb-true slot 4 e))) (λ e. omega arith))

  -- what the lists have of a field
  abbrev listed : ℕ → ℕ → ℕ
  listed slot value = cond (names_node slot) (get_or records value 0) (cond (eqb slot 4) (get_or sizes value 0) 0)

  in_a : listed (a_digit digits) ν.a ≡ capped (held l (a_digit digits) ν.a)
  in_a = rw (lay, is) (looked_up _ _ (lower _ n (node l n) fits).a_lower (in-conditions _ n (node l n) fits).a_in)

  in_b : listed (b_digit digits) ν.b ≡ capped (held l (b_digit digits) ν.b)
  in_b = rw (lay, is) (looked_up _ _ (lower _ n (node l n) fits).b_lower (in-conditions _ n (node l n) fits).b_in)

  in_c : listed (c_digit digits) ν.c ≡ capped (held l (c_digit digits) ν.c)
  in_c = rw (lay, is) (looked_up _ _ (lower _ n (node l n) fits).c_lower (in-conditions _ n (node l n) fits).c_in)

  all : node_records l n ≡ held l (a_digit digits) ν.a + held l (b_digit digits) ν.b + held l (c_digit digits) ν.c
  all = rw (lay, is) (node_counted l pre.accepted n pre.node_below)

  pub whole_count : {x y z : ℕ} → x ≡ listed (a_digit digits) ν.a → y ≡ listed (b_digit digits) ν.b → z ≡ listed (c_digit digits) ν.c
      → (x ≤ 257) × (y ≤ 257) × (z ≤ 257) × (capped (x + y + z) ≡ capped (node_records l n))
  whole_count p q r = (omega (arith, p, in_a), omega (arith, q, in_b), omega (arith, r, in_c), omega (arith, p, q, r, in_a, in_b, in_c, all))
