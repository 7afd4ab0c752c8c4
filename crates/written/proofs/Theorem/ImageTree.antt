-- The tree of an accepted image: its options are below F, it is one that an image can hold, and it has as many nodes as the image.
use Rattle.std.specs.Prelude.{◌≡◌, Bool, List, eqb}
use Rattle.std.proofs.Math.Path.{refl}
use Rattle.std.proofs.Common.{◌∙◌}
use Prim.Native.Nat.{ℕ, zero, suc, ◌-◌, ◌≤◌, ◌<◌}
use Rattle.std.proofs.Math.Bool.{true, false}
use Rattle.std.proofs.lemmas.Bool.{false≢true}
use native.Mathlib.Omega.{arith}
use Rattle.imp.specs.State.{branch}
use Rattle.imp.specs.Condition.{Condition, falseᶜ}
use Rattle.imp.specs.Routine.{Arithmetic, Boolean, Statement, skip}
use Rattle.imp.specs.Valid.{Valid}
use Rattle.image.specs.declared.records.ConditionRecord.{ConditionRecord}
use Rattle.image.specs.declared.records.Node.{Node}
use Rattle.image.specs.Bytes.{Bytes}
use Rattle.image.specs.Records.{header, condition_record, node}
use Rattle.image.specs.Layout.{kinds, layout, condition_kinds, condition_layout, is_choice}
use Rattle.image.specs.Rows.{condition_fits, class}
use Rattle.image.specs.Tree.{condition_kind, condition_reading, condition_below, condition, Kind, k_number, k_variable, k_sum, k_pick, k_choiceᵃ, k_falseᵇ, k_trueᵇ, k_notᵇ, k_andᵇ, k_less, k_choiceᵇ, k_skip, k_assign, k_sequence, k_if, k_while, k_throw, k_try, k_choice, k_other, kind_of, Read, an_arithmetic, a_boolean, a_statement, reading, read_below, read, routine}
use Rattle.image.specs.Listing.{sizeˢ}
use Rattle.image.specs.Accepted.{Accepted}
use Rattle.image.proofs.Theorem.ConditionHeld.{option_below}
use Rattle.image.proofs.Theorem.Choosing.{choice_condition}
use Rattle.image.proofs.Theorem.ReadValid.{read_valid}
use Rattle.image.proofs.Theorem.Held.{root_class}
use Rattle.image.proofs.Theorem.Sized.{tree_nodes}
use Rattle.image.proofs.Theorem.Once.{each_once}
use Rattle.written.specs.Under.{Underᶜ, Underᵃ, Underᵇ, Under}

-- ---- conditions

condition_by : (F k : ℕ) (r : ConditionRecord) → condition_fits F k r ≡ true → (at : ℕ → Condition) → ((j : ℕ) → Underᶜ F (at j)) → (κ : ℕ) → r.kind ≡ κ
    → Underᶜ F (condition_reading (condition_kind κ) at r)
unfolding condition_kind condition_reading Underᶜ condition_layout condition_kinds
condition_by F k r h at u zero e = tt
condition_by F k r h at u (suc zero) e = tt
condition_by F k r h at u (suc (suc zero)) e = option_below F k r h 2 e refl
condition_by F k r h at u (suc (suc (suc zero))) e = u r.left
condition_by F k r h at u (suc (suc (suc (suc zero)))) e = (u r.left, u r.right)
condition_by F k r h at u (suc (suc (suc (suc (suc zero))))) e = (u r.left, u r.right)
condition_by F k r h at u (suc (suc (suc (suc (suc (suc κ)))))) e = tt

module _ (l : List ℕ) (F C : ℕ) (fits : (k : ℕ) → k < C → condition_fits F k (condition_record l k) ≡ true) where
  below_under : (n : ℕ) → n ≤ C → (k : ℕ) → Underᶜ F (condition_below l n k)
  unfolding condition_below Underᶜ
  below_under zero h k = tt
  below_under (suc n) h k = go (eqb k n) (below_under n (omega arith))
    where
      go : (u : Bool) → ((k : ℕ) → Underᶜ F (condition_below l n k))
          → Underᶜ F (branch u (λ _. condition_reading (condition_kind (condition_record l n).kind) (condition_below l n) (condition_record l n)) (λ _. condition_below l n k) falseᶜ)
      go true ih = condition_by F n (condition_record l n) (fits n h) (condition_below l n) ih (condition_record l n).kind refl
      go false ih = ih k

  condition_under : (k : ℕ) → k < C → Underᶜ F (condition l k)
  unfolding condition
  condition_under k h = condition_by F k (condition_record l k) (fits k h) (condition_below l k) (below_under k (omega arith)) (condition_record l k).kind refl

-- ---- nodes

record UnderRead (F : ℕ) (r : Read) : Type 0 where
  arithmetic_under : Underᵃ F r.arithmetic
  boolean_under : Underᵇ F r.boolean
  statement_under : Under F r.statement

of_an_arithmetic : {F : ℕ} {a : Arithmetic Condition} → Underᵃ F a → UnderRead F (an_arithmetic a)
unfolding Underᵃ Under
of_an_arithmetic h = record { arithmetic_under = h; boolean_under = tt; statement_under = tt }

of_a_boolean : {F : ℕ} {e : Boolean Condition} → Underᵇ F e → UnderRead F (a_boolean e)
unfolding Underᵃ Under
of_a_boolean h = record { arithmetic_under = tt; boolean_under = h; statement_under = tt }

of_a_statement : {F : ℕ} {s : Statement Condition} → Under F s → UnderRead F (a_statement s)
unfolding Underᵃ Under
of_a_statement h = record { arithmetic_under = tt; boolean_under = tt; statement_under = h }

abbrev chooses : Kind → Bool
chooses k_number = false
chooses k_variable = false
chooses k_sum = false
chooses k_pick = false
chooses k_choiceᵃ = true
chooses k_falseᵇ = false
chooses k_trueᵇ = false
chooses k_notᵇ = false
chooses k_andᵇ = false
chooses k_less = false
chooses k_choiceᵇ = true
chooses k_skip = false
chooses k_assign = false
chooses k_sequence = false
chooses k_if = false
chooses k_while = false
chooses k_throw = false
chooses k_try = false
chooses k_choice = true
chooses k_other = false

choice_kind : (k : ℕ) → chooses (kind_of k) ≡ true → is_choice k ≡ true
unfolding kind_of is_choice layout kinds
choice_kind zero h = absurd (false≢true h)
choice_kind (suc zero) h = absurd (false≢true h)
choice_kind (suc (suc zero)) h = absurd (false≢true h)
choice_kind (suc (suc (suc zero))) h = absurd (false≢true h)
choice_kind (suc (suc (suc (suc zero)))) h = refl
choice_kind (suc (suc (suc (suc (suc zero))))) h = absurd (false≢true h)
choice_kind (suc (suc (suc (suc (suc (suc zero)))))) h = absurd (false≢true h)
choice_kind (suc (suc (suc (suc (suc (suc (suc zero))))))) h = absurd (false≢true h)
choice_kind (suc (suc (suc (suc (suc (suc (suc (suc zero)))))))) h = absurd (false≢true h)
choice_kind (suc (suc (suc (suc (suc (suc (suc (suc (suc zero))))))))) h = absurd (false≢true h)
choice_kind (suc (suc (suc (suc (suc (suc (suc (suc (suc (suc zero)))))))))) h = absurd (false≢true h)
choice_kind (suc (suc (suc (suc (suc (suc (suc (suc (suc (suc (suc zero))))))))))) h = absurd (false≢true h)
choice_kind (suc (suc (suc (suc (suc (suc (suc (suc (suc (suc (suc (suc zero)))))))))))) h = absurd (false≢true h)
choice_kind (suc (suc (suc (suc (suc (suc (suc (suc (suc (suc (suc (suc (suc zero))))))))))))) h = refl
choice_kind (suc (suc (suc (suc (suc (suc (suc (suc (suc (suc (suc (suc (suc (suc zero)))))))))))))) h = absurd (false≢true h)
choice_kind (suc (suc (suc (suc (suc (suc (suc (suc (suc (suc (suc (suc (suc (suc (suc zero))))))))))))))) h = absurd (false≢true h)
choice_kind (suc (suc (suc (suc (suc (suc (suc (suc (suc (suc (suc (suc (suc (suc (suc (suc zero)))))))))))))))) h = absurd (false≢true h)
choice_kind (suc (suc (suc (suc (suc (suc (suc (suc (suc (suc (suc (suc (suc (suc (suc (suc (suc zero))))))))))))))))) h = absurd (false≢true h)
choice_kind (suc (suc (suc (suc (suc (suc (suc (suc (suc (suc (suc (suc (suc (suc (suc (suc (suc (suc zero)))))))))))))))))) h = absurd (false≢true h)
choice_kind (suc (suc (suc (suc (suc (suc (suc (suc (suc (suc (suc (suc (suc (suc (suc (suc (suc (suc (suc zero))))))))))))))))))) h = absurd (false≢true h)
choice_kind (suc (suc (suc (suc (suc (suc (suc (suc (suc (suc (suc (suc (suc (suc (suc (suc (suc (suc (suc (suc zero)))))))))))))))))))) h = absurd (false≢true h)
choice_kind (suc (suc (suc (suc (suc (suc (suc (suc (suc (suc (suc (suc (suc (suc (suc (suc (suc (suc (suc (suc (suc zero))))))))))))))))))))) h = absurd (false≢true h)
choice_kind (suc (suc (suc (suc (suc (suc (suc (suc (suc (suc (suc (suc (suc (suc (suc (suc (suc (suc (suc (suc (suc (suc zero)))))))))))))))))))))) h = absurd (false≢true h)
choice_kind (suc (suc (suc (suc (suc (suc (suc (suc (suc (suc (suc (suc (suc (suc (suc (suc (suc (suc (suc (suc (suc (suc (suc zero))))))))))))))))))))))) h = refl
choice_kind (suc (suc (suc (suc (suc (suc (suc (suc (suc (suc (suc (suc (suc (suc (suc (suc (suc (suc (suc (suc (suc (suc (suc (suc k)))))))))))))))))))))))) h = absurd (false≢true h)

reading_under : (F : ℕ) (κ : Kind) (of : ℕ → Condition) (at : ℕ → Read) (ν : Node) → (chooses κ ≡ true → Underᶜ F (of ν.a)) → ((k : ℕ) → UnderRead F (at k))
    → UnderRead F (reading κ of at ν)
unfolding reading Underᵃ Under
reading_under F k_number of at ν c u = of_an_arithmetic tt
reading_under F k_variable of at ν c u = of_an_arithmetic tt
reading_under F k_sum of at ν c u = of_an_arithmetic ((u ν.a).arithmetic_under, (u ν.b).arithmetic_under)
reading_under F k_pick of at ν c u = of_an_arithmetic ((u ν.a).boolean_under, (u ν.b).arithmetic_under, (u ν.c).arithmetic_under)
reading_under F k_choiceᵃ of at ν c u = of_an_arithmetic (c refl, (u ν.b).arithmetic_under, (u ν.c).arithmetic_under)
reading_under F k_falseᵇ of at ν c u = of_a_boolean tt
reading_under F k_trueᵇ of at ν c u = of_a_boolean tt
reading_under F k_notᵇ of at ν c u = of_a_boolean (u ν.a).boolean_under
reading_under F k_andᵇ of at ν c u = of_a_boolean ((u ν.a).boolean_under, (u ν.b).boolean_under)
reading_under F k_less of at ν c u = of_a_boolean ((u ν.a).arithmetic_under, (u ν.b).arithmetic_under)
reading_under F k_choiceᵇ of at ν c u = of_a_boolean (c refl, (u ν.b).boolean_under, (u ν.c).boolean_under)
reading_under F k_skip of at ν c u = of_a_statement tt
reading_under F k_assign of at ν c u = of_a_statement (u ν.a).arithmetic_under
reading_under F k_sequence of at ν c u = of_a_statement ((u ν.a).statement_under, (u ν.b).statement_under)
reading_under F k_if of at ν c u = of_a_statement ((u ν.a).boolean_under, (u ν.b).statement_under, (u ν.c).statement_under)
reading_under F k_while of at ν c u = of_a_statement ((u ν.a).boolean_under, (u ν.b).statement_under)
reading_under F k_throw of at ν c u = of_a_statement (u ν.a).arithmetic_under
reading_under F k_try of at ν c u = of_a_statement ((u ν.a).statement_under, (u ν.b).statement_under)
reading_under F k_choice of at ν c u = of_a_statement (c refl, (u ν.b).statement_under, (u ν.c).statement_under)
reading_under F k_other of at ν c u = of_a_statement tt

module _ (l : Bytes) (acc : Accepted l) where
  abbrev F : ℕ
  F = (header l).options

  abbrev P : ℕ
  P = (header l).nodes

  node_under : (n : ℕ) → n < P → (at : ℕ → Read) → ((k : ℕ) → UnderRead F (at k)) → UnderRead F (reading (kind_of (node l n).kind) (condition l) at (node l n))
  node_under n h at u =
      reading_under F (kind_of (node l n).kind) (condition l) at (node l n)
      (λ c. condition_under l F (header l).conditions acc.conditions_fit (node l n).a (choice_condition l acc n h (choice_kind (node l n).kind c))) u

  nodes_below : (n : ℕ) → n ≤ P → (k : ℕ) → UnderRead F (read_below l n k)
  unfolding read_below Under
  nodes_below zero h k = of_a_statement tt
  nodes_below (suc n) h k = go (eqb k n) (nodes_below n (omega arith))
    where
      go : (u : Bool) → ((k : ℕ) → UnderRead F (read_below l n k))
          → UnderRead F (branch u (λ _. reading (kind_of (node l n).kind) (condition l) (read_below l n) (node l n)) (λ _. read_below l n k) (a_statement skip))
      go true ih = node_under n h (read_below l n) ih
      go false ih = ih k

  pub routine_under : Under F (routine l)
  unfolding routine read
  routine_under = (node_under (P - 1) (omega (arith, acc.some_node)) (read_below l (P - 1)) (nodes_below (P - 1) (omega arith))).statement_under

  pub routine_valid : Valid (routine l)
  unfolding routine
  routine_valid = (read_valid l (header l).conditions P acc.nodes_fit (P - 1) (omega (arith, acc.some_node))).statement_valid

  -- the tree has as many nodes as the image
  pub routine_size : sizeˢ (routine l) ≡ P
  unfolding routine
  routine_size =
      let C = (header l).conditions in
      let some : 0 < P = omega (arith, acc.some_node) in
      let low : P - 1 < P = omega arith in
      let end : suc (P - 1) ≡ P = omega arith in
      let c : class l (P - 1) ≡ 3 = root_class l C (P - 1) (acc.nodes_fit (P - 1) low) (acc.nodes_classed (P - 1) low) end in
      tree_nodes l C P acc.nodes_fit acc.nodes_classed some c ∙ (each_once l C P acc.nodes_fit some acc.named_once).as_many
