-- The tree that is read of a node has as many nodes as the node's list: each node adds one to its children's sizes. So, of the root, no node is left out.
use Rattle.std.specs.Prelude.{◌≡◌, refl, true, false, cond, List, [], ◌∷◌, eqb, length, get_or}
use Rattle.std.proofs.Common.{true≢false, eq-eqb, eqb-true}
use Rattle.std.proofs.lemmas.Bool.{false≢true}
use Prim.Native.Nat.{ℕ, zero, suc, ◌+◌, ◌-◌, ◌<◌}
use native.Mathlib.Omega.{arith}
use Rattle.imp.specs.Condition.{Condition}
use Rattle.image.specs.declared.records.Node.{Node}
use Rattle.image.specs.Records.{node}
use Rattle.image.specs.Layout.{kinds, layout, class_digit, a_digit, b_digit, c_digit, names_node}
use Rattle.image.specs.Rows.{node_fits, class, classed}
use Rattle.image.specs.Tree.{kind_of, condition, Read, reading, read_below, read}
use Rattle.image.specs.Listing.{listing, sizeᵃ, sizeᵇ, sizeˢ}
use Rattle.image.proofs.Theorem.Lower.{fitted}
use Rattle.image.proofs.Theorem.Kinds.{kind_cases}
use Rattle.image.proofs.Theorem.Held.{Child, child_a, child_b, child_c}
use Rattle.image.proofs.Theorem.Reading.{read_same}
use Rattle.image.proofs.Theorem.Sums.{over_none, length_over}
use Rattle.image.proofs.Theorem.Listed.{by_test, slot_sum, children_sum, over_tree}

-- the size of what is read, in a class
size_in : ℕ → Read → ℕ
size_in slot r = get_or (0 ∷ sizeᵃ r.arithmetic ∷ sizeᵇ r.boolean ∷ sizeˢ r.statement ∷ []) slot 0

-- a field that names no node has none
no_size : (slot : ℕ) (r : Read) → names_node slot ≡ false → 0 ≡ size_in slot r
unfolding names_node size_in
no_size zero r e = refl
no_size (suc zero) r e = absurd (true≢false e)
no_size (suc (suc zero)) r e = absurd (true≢false e)
no_size (suc (suc (suc zero))) r e = absurd (true≢false e)
no_size (suc (suc (suc (suc slot)))) r e = refl

-- what is read of a node has one node more than its children, each in its field's class
abbrev OneMore : (ℕ → Condition) → (ℕ → Read) → Node → ℕ → Type 0
OneMore of at ν k =
    size_in (class_digit (layout k)) (reading (kind_of k) of at ν)
    ≡ size_in (a_digit (layout k)) (at ν.a) + (size_in (b_digit (layout k)) (at ν.b) + size_in (c_digit (layout k)) (at ν.c)) + 1

one_more : (of : ℕ → Condition) (at : ℕ → Read) (ν : Node) (k : ℕ) → (layout k ≡ 0 → ⊥) → OneMore of at ν k
unfolding size_in reading kind_of layout kinds sizeᵃ sizeˢ
one_more of at ν = kind_cases (λ k. (layout k ≡ 0 → ⊥) → OneMore of at ν k)
    (λ _. omega arith) (λ _. omega arith) (λ _. omega arith) (λ _. omega arith) (λ _. omega arith)
    (λ _. omega arith) (λ _. omega arith) (λ _. omega arith) (λ _. omega arith) (λ _. omega arith) (λ _. omega arith)
    (λ _. omega arith) (λ _. omega arith) (λ _. omega arith) (λ _. omega arith) (λ _. omega arith) (λ _. omega arith) (λ _. omega arith) (λ _. omega arith)
    (λ k none known. absurd (known none))

-- a node that passes test 6 is of a known kind
known : (C n : ℕ) (ν : Node) → node_fits C n ν ≡ true → layout ν.kind ≡ 0 → ⊥
unfolding layout kinds
known C n ν fits none = by_test (eqb ν.kind 0) (λ u. ⊥)
    (λ e. omega (arith, rw (eqb-true ν.kind 0 e) at none))
    (λ e. false≢true (rw (eq-eqb (layout ν.kind) 0 none) at (fitted C n ν fits e).known))

-- a node's size in its class
abbrev node_size : List ℕ → ℕ → ℕ
node_size l n = size_in (class l n) (read l n)

slot_size : (l : List ℕ) (n slot value : ℕ) → (names_node slot ≡ true → Child l n slot value) → slot_sum (node_size l) slot value ≡ size_in slot (read_below l n value)
unfolding slot_sum
slot_size l n slot value child = by_test (names_node slot) (λ u. cond u (node_size l value) 0 ≡ size_in slot (read_below l n value))
    (λ e. rw ((child e).is_class, read_same l n value (child e).is_lower))
    (no_size slot (read_below l n value))

module _ (l : List ℕ) (C P : ℕ) (fits : (n : ℕ) → n < P → node_fits C n (node l n) ≡ true) (cls : (n : ℕ) → n < P → classed l n ≡ true) where
  step : (n : ℕ) → n < P → children_sum (node_size l) (node l n) + 1 ≡ node_size l n + 0
  unfolding children_sum class read
  step n h =
      let ν : Node = node l n in
      let digits : ℕ = layout ν.kind in
      omega (
        arith,
        slot_size l n (a_digit digits) ν.a (child_a l C n (fits n h) (cls n h) ν.kind refl),
        slot_size l n (b_digit digits) ν.b (child_b l C n (fits n h) (cls n h) ν.kind refl),
        slot_size l n (c_digit digits) ν.c (child_c l C n (fits n h) (cls n h) ν.kind refl),
        one_more (condition l) (read_below l n) ν ν.kind (known C n ν (fits n h)),
      )

  sized : (n : ℕ) → n < P → node_size l n ≡ length (listing l n)
  sized n h = omega (arith, length_over (listing l n), over_tree l C P fits (node_size l) (λ x. 1) (λ x. 0) step n h, over_none (listing l n))

  pub statement_nodes : (n : ℕ) → n < P → class l n ≡ 3 → sizeˢ (read l n).statement ≡ length (listing l n)
  unfolding size_in
  statement_nodes n h c = rw c at (sized n h)

  pub tree_nodes : 0 < P → class l (P - 1) ≡ 3 → sizeˢ (read l (P - 1)).statement ≡ length (listing l (P - 1))
  tree_nodes some c = statement_nodes (P - 1) (omega arith) c
