-- The configured term of a node is the term of its configured tree, whatever its class. Strong induction on the node's number, and a case for each kind.
use Rattle.std.specs.Prelude.{◌≡◌, ℕ, zero, suc, ◌<◌, Bool, true, false, cond, eqb}
use Rattle.std.proofs.Math.Path.{refl, sym, ap, ap₂}
use Rattle.std.proofs.Common.{◌∙◌}
use native.Mathlib.Omega.{arith}
use borrow.Author.Tests.{eqb-true}
use Rattle.imp.specs.Condition.{holds}
use Rattle.imp.specs.Configure.{configureᵃ, configureᵇ, configure}
use Rattle.imp.proofs.Theorem.Wrap.{low_signed}
use Rattle.image.specs.declared.records.Node.{Node}
use Rattle.image.specs.Bytes.{Bytes}
use Rattle.image.specs.Records.{header, node}
use Rattle.image.specs.Layout.{kinds, layout, class_digit, variable_digit, a_digit, b_digit, c_digit, names_node, field_fits, is_choice}
use Rattle.image.specs.Rows.{node_fits, class}
use Rattle.image.specs.Tree.{condition, read}
use Rattle.image.specs.Term.{term, none, some}
use Rattle.image.specs.Encode.{leaf, on_one, on_two, termᵃ, termᵇ, termˢ}
use Rattle.image.specs.Accepted.{Accepted}
use Rattle.image.proofs.Theorem.Lower.{Fitted, fitted, lower}
use Rattle.image.specs.Inner.Lower.{Lower}
use Rattle.image.proofs.Theorem.Held.{Child, child_a, child_b, child_c}
use Rattle.image.proofs.Theorem.Kinds.{kind_cases}
use Rattle.image.proofs.Theorem.Reading as At
use Rattle.configure.specs.Inner.Term.{hang, term_at}
use Rattle.configure.specs.Theorem.Terms.{choice_term, node_term}

-- the term of node n is that of its tree, in its own class
pub record TermIs (l : Bytes) (s n : ℕ) : Type 0 where
  pub of_arithmetic : class l n ≡ 1 → term_at l s n ≡ termᵃ (configureᵃ s (read l n).arithmetic)
  pub of_boolean : class l n ≡ 2 → term_at l s n ≡ termᵇ (configureᵇ s (read l n).boolean)
  pub of_statement : class l n ≡ 3 → term_at l s n ≡ termˢ (configure s (read l n).statement)

-- a node is of one class
module _ {l : Bytes} {s n : ℕ} where
  an_arithmetic : class l n ≡ 1 → term_at l s n ≡ termᵃ (configureᵃ s (read l n).arithmetic) → TermIs l s n
  an_arithmetic c e = record { of_arithmetic = λ h. e; of_boolean = λ h. absurd (omega arith); of_statement = λ h. absurd (omega arith) }

  a_boolean : class l n ≡ 2 → term_at l s n ≡ termᵇ (configureᵇ s (read l n).boolean) → TermIs l s n
  a_boolean c e = record { of_arithmetic = λ h. absurd (omega arith); of_boolean = λ h. e; of_statement = λ h. absurd (omega arith) }

  a_statement : class l n ≡ 3 → term_at l s n ≡ termˢ (configure s (read l n).statement) → TermIs l s n
  a_statement c e = record { of_arithmetic = λ h. absurd (omega arith); of_boolean = λ h. absurd (omega arith); of_statement = λ h. e }

-- ---- a node of an accepted image

module _ (l : Bytes) (acc : Accepted l) (s n : ℕ) (h : n < (header l).nodes) (ih : (k : ℕ) → k < n → TermIs l s k) where
  abbrev ν : Node
  ν = node l n

  fits : node_fits (header l).conditions n ν ≡ true
  fits = acc.nodes_fit n h

  class_is : (k c : ℕ) → ν.kind ≡ k → class_digit (layout k) ≡ c → class l n ≡ c
  unfolding class
  class_is k c e d = rw e d

  -- a kind with no variable has that field zero
  no_variable : (k : ℕ) → ν.kind ≡ k → eqb k 0 ≡ false → variable_digit (layout k) ≡ 0 → ν.variable ≡ 0
  unfolding field_fits
  no_variable k e nk d =
      let f : Fitted (header l).conditions n ν = fitted (header l).conditions n ν fits (rw e nk) in
      eqb-true ν.variable 0 (rw (ap (λ k. variable_digit (layout k)) e ∙ d) at f.variable_fits)

  -- a number node has only its value
  number_zero : ν.kind ≡ 0 → ν.variable ≡ 0
  unfolding node_fits node
  number_zero e =
      let z : ν.high ≡ 0 = eqb-true ν.high 0 (rw e at fits) in
      omega arith

  -- a node that is no choice, by its kind
  own_term : (k : ℕ) → ν.kind ≡ k → is_choice k ≡ false → eqb k 0 ≡ false
      → term_at l s n ≡ term k ν.variable 0 (hang (names_node (a_digit (layout k))) (term_at l s) ν.a)
      (hang (names_node (b_digit (layout k))) (term_at l s) ν.b) (hang (names_node (c_digit (layout k))) (term_at l s) ν.c)
  own_term k e nc nk =
      let low : Lower n ν = lower (header l).conditions n ν fits in
      node_term l s n (rw e nc) low.a_lower low.b_lower low.c_lower ∙ rw (e, nk)

  abbrev cls : Rattle.image.specs.Rows.classed l n ≡ true
  cls = acc.nodes_classed n h

  by_a : (k : ℕ) → ν.kind ≡ k → names_node (a_digit (layout k)) ≡ true → Child l n (a_digit (layout k)) ν.a
  by_a = child_a l (header l).conditions n fits cls

  by_b : (k : ℕ) → ν.kind ≡ k → names_node (b_digit (layout k)) ≡ true → Child l n (b_digit (layout k)) ν.b
  by_b = child_b l (header l).conditions n fits cls

  by_c : (k : ℕ) → ν.kind ≡ k → names_node (c_digit (layout k)) ≡ true → Child l n (c_digit (layout k)) ν.c
  by_c = child_c l (header l).conditions n fits cls

  -- the term of a child, by its class
  arithmetic_child : {slot x : ℕ} → slot ≡ 1 → Child l n slot x → term_at l s x ≡ termᵃ (configureᵃ s (read l x).arithmetic)
  arithmetic_child {slot} {x} e c = (ih x c.is_lower).of_arithmetic (c.is_class ∙ e)

  boolean_child : {slot x : ℕ} → slot ≡ 2 → Child l n slot x → term_at l s x ≡ termᵇ (configureᵇ s (read l x).boolean)
  boolean_child {slot} {x} e c = (ih x c.is_lower).of_boolean (c.is_class ∙ e)

  statement_child : {slot x : ℕ} → slot ≡ 3 → Child l n slot x → term_at l s x ≡ termˢ (configure s (read l x).statement)
  statement_child {slot} {x} e c = (ih x c.is_lower).of_statement (c.is_class ∙ e)

  -- ---- each kind

  number_is : ν.kind ≡ 0 → TermIs l s n
  unfolding layout kinds is_choice names_node hang termᵃ configureᵃ node
  number_is e =
      let low : Lower n ν = lower (header l).conditions n ν fits in
      an_arithmetic (class_is 0 1 e refl)
      (node_term l s n (rw e) low.a_lower low.b_lower low.c_lower ∙ rw (e, number_zero e)
      (ap (λ v. term 0 0 v none none none) (sym (low_signed ν.value (omega arith))))
      ∙ sym (ap (λ t. termᵃ (configureᵃ s t)) (At.number_at l n e)))

  variable_is : ν.kind ≡ 1 → TermIs l s n
  unfolding layout kinds is_choice names_node hang termᵃ configureᵃ
  variable_is e = an_arithmetic (class_is 1 1 e refl) (own_term 1 e refl refl ∙ sym (ap (λ t. termᵃ (configureᵃ s t)) (At.variable_at l n e)))

  sum_is : ν.kind ≡ 2 → TermIs l s n
  unfolding layout kinds is_choice names_node hang termᵃ configureᵃ
  sum_is e =
      let a = by_a 2 e refl in
      let b = by_b 2 e refl in
      an_arithmetic (class_is 2 1 e refl)
      (own_term 2 e refl refl ∙ (λ i. term 2 (no_variable 2 e refl refl i) 0 (some (arithmetic_child refl a i)) (some (arithmetic_child refl b i)) none)
      ∙ sym (ap (λ t. termᵃ (configureᵃ s t)) (At.sum_at l n e a.is_lower b.is_lower)))

  pick_is : ν.kind ≡ 3 → TermIs l s n
  unfolding layout kinds is_choice names_node hang termᵃ configureᵃ
  pick_is e =
      let a = by_a 3 e refl in
      let b = by_b 3 e refl in
      let c = by_c 3 e refl in
      an_arithmetic (class_is 3 1 e refl)
      (own_term 3 e refl refl
      ∙ (λ i. term 3 (no_variable 3 e refl refl i) 0 (some (boolean_child refl a i)) (some (arithmetic_child refl b i)) (some (arithmetic_child refl c i)))
      ∙ sym (ap (λ t. termᵃ (configureᵃ s t)) (At.pick_at l n e a.is_lower b.is_lower c.is_lower)))

  -- a choice is the part that its condition chooses
  chosen : {T R : Type 0} (g : T → R) (u : Bool) (f : ℕ → R) (b c : ℕ) (x y : T) → f b ≡ g x → f c ≡ g y → f (cond u b c) ≡ g (cond u x y)
  chosen g true f b c x y p q = p
  chosen g false f b c x y p q = q

  choiceᵃ_is : ν.kind ≡ 4 → TermIs l s n
  unfolding layout kinds is_choice names_node configureᵃ
  choiceᵃ_is e =
      let b = by_b 4 e refl in
      let c = by_c 4 e refl in
      an_arithmetic (class_is 4 1 e refl)
      (choice_term l s n (rw e) b.is_lower c.is_lower
      ∙ chosen termᵃ (holds (condition l ν.a) s) (term_at l s) ν.b ν.c _ _ (arithmetic_child refl b) (arithmetic_child refl c)
      ∙ sym (ap (λ t. termᵃ (configureᵃ s t)) (At.choiceᵃ_at l n e b.is_lower c.is_lower)))

  falseᵇ_is : ν.kind ≡ 8 → TermIs l s n
  unfolding layout kinds is_choice names_node hang termᵇ configureᵇ
  falseᵇ_is e = a_boolean (class_is 8 2 e refl)
      (own_term 8 e refl refl ∙ ap (λ v. leaf 8 v 0) (no_variable 8 e refl refl) ∙ sym (ap (λ t. termᵇ (configureᵇ s t)) (At.falseᵇ_at l n e)))

  trueᵇ_is : ν.kind ≡ 9 → TermIs l s n
  unfolding layout kinds is_choice names_node hang termᵇ configureᵇ
  trueᵇ_is e = a_boolean (class_is 9 2 e refl)
      (own_term 9 e refl refl ∙ ap (λ v. leaf 9 v 0) (no_variable 9 e refl refl) ∙ sym (ap (λ t. termᵇ (configureᵇ s t)) (At.trueᵇ_at l n e)))

  notᵇ_is : ν.kind ≡ 10 → TermIs l s n
  unfolding layout kinds is_choice names_node hang termᵇ configureᵇ
  notᵇ_is e =
      let a = by_a 10 e refl in
      a_boolean (class_is 10 2 e refl)
      (own_term 10 e refl refl ∙ ap₂ (λ v x. on_one 10 v x) (no_variable 10 e refl refl) (boolean_child refl a)
      ∙ sym (ap (λ t. termᵇ (configureᵇ s t)) (At.notᵇ_at l n e a.is_lower)))

  andᵇ_is : ν.kind ≡ 11 → TermIs l s n
  unfolding layout kinds is_choice names_node hang termᵇ configureᵇ
  andᵇ_is e =
      let a = by_a 11 e refl in
      let b = by_b 11 e refl in
      a_boolean (class_is 11 2 e refl)
      (own_term 11 e refl refl ∙ (λ i. term 11 (no_variable 11 e refl refl i) 0 (some (boolean_child refl a i)) (some (boolean_child refl b i)) none)
      ∙ sym (ap (λ t. termᵇ (configureᵇ s t)) (At.andᵇ_at l n e a.is_lower b.is_lower)))

  less_is : ν.kind ≡ 12 → TermIs l s n
  unfolding layout kinds is_choice names_node hang termᵇ configureᵇ
  less_is e =
      let a = by_a 12 e refl in
      let b = by_b 12 e refl in
      a_boolean (class_is 12 2 e refl)
      (own_term 12 e refl refl ∙ (λ i. term 12 (no_variable 12 e refl refl i) 0 (some (arithmetic_child refl a i)) (some (arithmetic_child refl b i)) none)
      ∙ sym (ap (λ t. termᵇ (configureᵇ s t)) (At.less_at l n e a.is_lower b.is_lower)))

  choiceᵇ_is : ν.kind ≡ 13 → TermIs l s n
  unfolding layout kinds is_choice names_node configureᵇ
  choiceᵇ_is e =
      let b = by_b 13 e refl in
      let c = by_c 13 e refl in
      a_boolean (class_is 13 2 e refl)
      (choice_term l s n (rw e) b.is_lower c.is_lower
      ∙ chosen termᵇ (holds (condition l ν.a) s) (term_at l s) ν.b ν.c _ _ (boolean_child refl b) (boolean_child refl c)
      ∙ sym (ap (λ t. termᵇ (configureᵇ s t)) (At.choiceᵇ_at l n e b.is_lower c.is_lower)))

  skip_is : ν.kind ≡ 16 → TermIs l s n
  unfolding layout kinds is_choice names_node hang termˢ configure
  skip_is e = a_statement (class_is 16 3 e refl)
      (own_term 16 e refl refl ∙ ap (λ v. leaf 16 v 0) (no_variable 16 e refl refl) ∙ sym (ap (λ t. termˢ (configure s t)) (At.skip_at l n e)))

  assign_is : ν.kind ≡ 17 → TermIs l s n
  unfolding layout kinds is_choice names_node hang termˢ configure
  assign_is e =
      let a = by_a 17 e refl in
      a_statement (class_is 17 3 e refl)
      (own_term 17 e refl refl ∙ ap (λ x. on_one 17 ν.variable x) (arithmetic_child refl a)
      ∙ sym (ap (λ t. termˢ (configure s t)) (At.assign_at l n e a.is_lower)))

  sequence_is : ν.kind ≡ 18 → TermIs l s n
  unfolding layout kinds is_choice names_node hang termˢ configure
  sequence_is e =
      let a = by_a 18 e refl in
      let b = by_b 18 e refl in
      a_statement (class_is 18 3 e refl)
      (own_term 18 e refl refl ∙ (λ i. term 18 (no_variable 18 e refl refl i) 0 (some (statement_child refl a i)) (some (statement_child refl b i)) none)
      ∙ sym (ap (λ t. termˢ (configure s t)) (At.sequence_at l n e a.is_lower b.is_lower)))

  if_is : ν.kind ≡ 19 → TermIs l s n
  unfolding layout kinds is_choice names_node hang termˢ configure
  if_is e =
      let a = by_a 19 e refl in
      let b = by_b 19 e refl in
      let c = by_c 19 e refl in
      a_statement (class_is 19 3 e refl)
      (own_term 19 e refl refl
      ∙ (λ i. term 19 (no_variable 19 e refl refl i) 0 (some (boolean_child refl a i)) (some (statement_child refl b i)) (some (statement_child refl c i)))
      ∙ sym (ap (λ t. termˢ (configure s t)) (At.if_at l n e a.is_lower b.is_lower c.is_lower)))

  while_is : ν.kind ≡ 20 → TermIs l s n
  unfolding layout kinds is_choice names_node hang termˢ configure
  while_is e =
      let a = by_a 20 e refl in
      let b = by_b 20 e refl in
      a_statement (class_is 20 3 e refl)
      (own_term 20 e refl refl ∙ (λ i. term 20 (no_variable 20 e refl refl i) 0 (some (boolean_child refl a i)) (some (statement_child refl b i)) none)
      ∙ sym (ap (λ t. termˢ (configure s t)) (At.while_at l n e a.is_lower b.is_lower)))

  throw_is : ν.kind ≡ 21 → TermIs l s n
  unfolding layout kinds is_choice names_node hang termˢ configure
  throw_is e =
      let a = by_a 21 e refl in
      a_statement (class_is 21 3 e refl)
      (own_term 21 e refl refl ∙ ap₂ (λ v x. on_one 21 v x) (no_variable 21 e refl refl) (arithmetic_child refl a)
      ∙ sym (ap (λ t. termˢ (configure s t)) (At.throw_at l n e a.is_lower)))

  try_is : ν.kind ≡ 22 → TermIs l s n
  unfolding layout kinds is_choice names_node hang termˢ configure
  try_is e =
      let a = by_a 22 e refl in
      let b = by_b 22 e refl in
      a_statement (class_is 22 3 e refl)
      (own_term 22 e refl refl ∙ ap₂ (λ x y. on_two 22 ν.variable x y) (statement_child refl a) (statement_child refl b)
      ∙ sym (ap (λ t. termˢ (configure s t)) (At.try_at l n e a.is_lower b.is_lower)))

  choice_is : ν.kind ≡ 23 → TermIs l s n
  unfolding layout kinds is_choice names_node configure
  choice_is e =
      let b = by_b 23 e refl in
      let c = by_c 23 e refl in
      a_statement (class_is 23 3 e refl)
      (choice_term l s n (rw e) b.is_lower c.is_lower
      ∙ chosen termˢ (holds (condition l ν.a) s) (term_at l s) ν.b ν.c _ _ (statement_child refl b) (statement_child refl c)
      ∙ sym (ap (λ t. termˢ (configure s t)) (At.choice_at l n e b.is_lower c.is_lower)))

  -- a node of no kind has no class
  none_is : (k : ℕ) → layout k ≡ 0 → ν.kind ≡ k → TermIs l s n
  none_is k z e =
      let c : class l n ≡ 0 = class_is k 0 e (rw z) in
      record { of_arithmetic = λ h. absurd (omega arith); of_boolean = λ h. absurd (omega arith); of_statement = λ h. absurd (omega arith) }

  step : TermIs l s n
  step = kind_cases (λ k. ν.kind ≡ k → TermIs l s n) number_is variable_is sum_is pick_is choiceᵃ_is falseᵇ_is trueᵇ_is notᵇ_is andᵇ_is less_is choiceᵇ_is
      skip_is assign_is sequence_is if_is while_is throw_is try_is choice_is none_is ν.kind refl

-- ---- every node

below : (l : Bytes) → Accepted l → (s m n : ℕ) → n < m → n < (header l).nodes → TermIs l s n
below l acc s zero n h i = absurd (omega arith)
below l acc s (suc m) n h i = step l acc s n i λ k j. below l acc s m k (omega arith) (omega arith)

pub linked : (l : Bytes) → Accepted l → (s n : ℕ) → n < (header l).nodes → TermIs l s n
linked l acc s n h = below l acc s (suc n) n (omega arith) h
