-- The records of a node are those of its fields together: one case for each kind. The size of a condition is one more than its names' together.
use Rattle.std.specs.Prelude.{◌≡◌, refl, true, eqb}
use Rattle.std.proofs.Common.{sym, ◌∙◌, eqb-true}
use Rattle.std.proofs.Math.Path.{ap, ap₂}
use Rattle.std.proofs.Math.Bool.{cond}
use Prim.Native.Nat.{ℕ, zero, suc, ◌+◌, ◌/◌, ◌%◌, ◌<◌}
use native.Mathlib.Omega.{arith}
use Rattle.imp.specs.Condition.{Condition}
use Rattle.image.specs.declared.records.ConditionRecord.{ConditionRecord}
use Rattle.image.specs.declared.records.Node.{Node}
use Rattle.image.specs.Bytes.{Bytes}
use Rattle.image.specs.Records.{header, condition_record, node}
use Rattle.image.specs.Layout.{kinds, layout, class_digit, a_digit, b_digit, c_digit, names_node, condition_kinds, condition_layout}
use Rattle.image.specs.Rows.{class}
use Rattle.image.specs.Accepted.{Accepted}
use Rattle.image.specs.Tree.{condition_kind, condition_reading, condition_below, condition, kind_of, Read, reading, read_below, read}
use Rattle.image.proofs.Theorem.Kinds.{kind_cases}
use Rattle.image.proofs.Theorem.Held.{Child}
use Rattle.image.proofs.Theorem.ConditionHeld.{kind_below, left_below, right_below}
use Rattle.image.proofs.Theorem.Reading.{condition_same, read_same}
use Rattle.image.proofs.Theorem.Listed.{by_test}
use Rattle.written.specs.Count.{sizeᶜ, recordsᵃ, recordsˢ}
use Rattle.listing.specs.Inner.Counting.{records_of, node_records, field_records}
use Rattle.listing.proofs.Theorem.Image.{known, in_a, in_b, in_c}

-- ---- nodes

opened : Unit {0}
unfolding layout kinds names_node kind_of reading records_of field_records recordsᵃ recordsˢ
opened = tt

module _ (of : ℕ → Condition) (at : ℕ → Read) (ν : Node) where
  abbrev in_field : ℕ → ℕ → ℕ
  in_field slot value = field_records (λ slot x. records_of slot (at x)) of slot value

  abbrev Claim : ℕ → Type 0
  Claim κ = (layout κ ≡ 0 → ⊥) → records_of (class_digit (layout κ)) (reading (kind_of κ) of at ν)
      ≡ in_field (a_digit (layout κ)) ν.a + in_field (b_digit (layout κ)) ν.b + in_field (c_digit (layout κ)) ν.c

  claims : (κ : ℕ) → Claim κ
  unfolding opened
  claims = kind_cases Claim (λ k. omega arith) (λ k. omega arith) (λ k. omega arith) (λ k. omega arith) (λ k. omega arith) (λ k. omega arith)
      (λ k. omega arith) (λ k. omega arith) (λ k. omega arith) (λ k. omega arith) (λ k. omega arith) (λ k. omega arith) (λ k. omega arith)
      (λ k. omega arith) (λ k. omega arith) (λ k. omega arith) (λ k. omega arith) (λ k. omega arith) (λ k. omega arith) (λ κ z k. absurd (k z))

-- those of a node of an image, by its fields
unfoldable pub held : Bytes → ℕ → ℕ → ℕ
held l slot value = field_records (λ slot. node_records l) (condition l) slot value

module _ (l : Bytes) (acc : Accepted l) (n : ℕ) (h : n < (header l).nodes) where
  abbrev ν : Node
  ν = node l n

  abbrev digits : ℕ
  digits = layout ν.kind

  same : (slot value : ℕ) → (names_node slot ≡ true → Child l n slot value)
      → field_records (λ slot x. records_of slot (read_below l n x)) (condition l) slot value ≡ held l slot value
  unfolding field_records node_records held
  same slot value child =
      by_test (names_node slot)
      (λ u. cond u (records_of slot (read_below l n value)) (cond (eqb slot 4) (sizeᶜ (condition l value)) 0)
      ≡ cond u (records_of (class l value) (read l value)) (cond (eqb slot 4) (sizeᶜ (condition l value)) 0))
      (λ e. ap₂ records_of (sym (child e).is_class) (read_same l n value (child e).is_lower)) (λ e. refl)

  pub node_counted : node_records l n ≡ held l (a_digit digits) ν.a + held l (b_digit digits) ν.b + held l (c_digit digits) ν.c
  unfolding node_records class read
  node_counted =
      claims (condition l) (read_below l n) ν ν.kind (known (header l).conditions n ν (acc.nodes_fit n h))
      ∙ omega (
        arith,
        same (a_digit digits) ν.a (in_a l acc n h),
        same (b_digit digits) ν.b (in_b l acc n h),
        same (c_digit digits) ν.c (in_c l acc n h),
      )

-- ---- conditions

-- the size of a condition that is named, where `at` gives the conditions
unfoldable pub named_size : (ℕ → Condition) → ℕ → ℕ → ℕ
named_size at digit value = cond (eqb digit 1) (sizeᶜ (at value)) 0

module _ (at : ℕ → Condition) (r : ConditionRecord) where
  abbrev Sized : ℕ → Type 0
  Sized κ = sizeᶜ (condition_reading (condition_kind κ) at r) ≡ named_size at (condition_layout κ / 8 % 8) r.left + named_size at (condition_layout κ % 8) r.right + 1

  sized : (κ : ℕ) → κ < 6 → Sized κ
  unfolding condition_kind condition_reading condition_layout condition_kinds named_size sizeᶜ
  sized zero h = omega arith
  sized (suc zero) h = omega arith
  sized (suc (suc zero)) h = omega arith
  sized (suc (suc (suc zero))) h = omega arith
  sized (suc (suc (suc (suc zero)))) h = omega arith
  sized (suc (suc (suc (suc (suc zero))))) h = omega arith
  sized (suc (suc (suc (suc (suc (suc κ)))))) h = absurd (omega arith)

module _ (l : Bytes) (acc : Accepted l) (k : ℕ) (h : k < (header l).conditions) where
  abbrev r : ConditionRecord
  r = condition_record l k

  size_same : (digit value : ℕ) → (digit ≡ 1 → value < k) → named_size (condition_below l k) digit value ≡ named_size (condition l) digit value
  unfolding named_size
  size_same digit value low =
      by_test (eqb digit 1) (λ u. cond u (sizeᶜ (condition_below l k value)) 0 ≡ cond u (sizeᶜ (condition l value)) 0)
      (λ e. ap sizeᶜ (condition_same l k value (low (eqb-true digit 1 e)))) (λ e. refl)

  pub condition_sized : sizeᶜ (condition l k)
      ≡ named_size (condition l) (condition_layout r.kind / 8 % 8) r.left + named_size (condition l) (condition_layout r.kind % 8) r.right + 1
  unfolding condition
  condition_sized =
      let F = (header l).options in
      let fits = acc.conditions_fit k h in
      let digits = condition_layout r.kind in
      sized (condition_below l k) r r.kind (kind_below F k r fits)
      ∙ omega (arith, size_same (digits / 8 % 8) r.left (left_below F k r fits r.kind refl), size_same (digits % 8) r.right (right_below F k r fits r.kind refl))
