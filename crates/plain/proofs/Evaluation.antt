-- An evaluation at its node: a child is lower and can be evaluated too, and what the code makes of the children's values is the node's value.
use mathlib.Core.Path.{◌≡◌, refl, sym, ◌∙◌, ap}
use mathlib.Core.Bool.{Bool, true, false, not, ◌&&◌, cond}
use mathlib.Core.List.{List}
use Prim.Native.Nat.{ℕ, ◌<◌}
use native.Mathlib.Omega.{arith}
use lib.Dec.{eqb, ltb}
use lib.IntN.{ℤ, pos, ◌+ℤ◌}
use lib.ListN.{length, get_or}
use lib.Signed.{mag, lt_z}
use mir.Syntax.{w32}
use mir.Val.{to_z, of_z}
use mir.Facts.{to_z-of_z}
use borrow.Author.Tests.{ltb-true}
use Rattle.sets.specs.Member.{bit}
use Rattle.imp.specs.Condition.{Condition, holds}
use Rattle.imp.specs.Numbers.{signed32, wrap}
use Rattle.imp.specs.Routine.{Arithmetic, Boolean}
use Rattle.imp.specs.Shared.{value_in, truth_in}
use Rattle.image.specs.declared.records.Node.{Node}
use Rattle.image.specs.Bytes.{Bytes}
use Rattle.image.specs.Records.{header, node}
use Rattle.image.specs.Layout.{kinds, layout, class_digit, a_digit, b_digit, c_digit, names_node, is_choice}
use Rattle.image.specs.Rows.{node_fits, class, classed}
use Rattle.image.specs.Tree.{condition, read}
use Rattle.image.specs.Accepted.{Accepted}
use Rattle.image.specs.Inner.Ready.{Ready}
use Rattle.image.proofs.Theorem.Choosing.{choice_condition, chosen_is}
use Rattle.image.proofs.Theorem.Held.{Child, child_a, child_b, child_c, variable_below}
use Rattle.image.proofs.Theorem.Kinds.{kind_cases}
use Rattle.image.proofs.Theorem.Lower.{both}
use Rattle.image.proofs.Theorem.Reading.{number_at, variable_at, sum_at, pick_at, choiceᵃ_at, falseᵇ_at, trueᵇ_at, notᵇ_at, andᵇ_at, less_at, choiceᵇ_at}
use Rattle.image.specs.declared.kinds.Kind.{Kind}
use Rattle.image.specs.declared.kinds.Kind.TheVariants.{Number, Variable, Sum, Pick, False, True, Not, And, Less}
use Rattle.image.specs.Kinds.{kind_number}
use Rattle.plain.specs.Inner.Evaluating.{Evaluating}

-- a kind of class 1 is 0 to 4, one of class 2 is 8 to 13, one of class 3 is 16 to 23
abbrev in_class : ℕ → Bool
in_class k =
    cond (eqb (class_digit (layout k)) 1) (ltb k 5)
    (cond (eqb (class_digit (layout k)) 2) (ltb 7 k && ltb k 14)
    (cond (eqb (class_digit (layout k)) 3) (ltb 15 k && ltb k 24) true))

all_in_class : (k : ℕ) → in_class k ≡ true
unfolding layout kinds
all_in_class = kind_cases (λ k. in_class k ≡ true)
    refl refl refl refl refl refl refl refl refl refl refl refl refl refl refl refl refl refl refl (λ k z. rw z)

-- a function of the side that is taken
pub of_side : {A B : Type 0} (f : A → B) (u : Bool) (x y : A) → f (cond u x y) ≡ cond u (f x) (f y)
of_side f true x y = refl
of_side f false x y = refl

-- a number of 32 bits goes through the machine unchanged
pub through : {x z : ℤ} → mag x < 2147483648 → x ≡ z → to_z w32 (of_z w32 x) ≡ z
through h e = to_z-of_z {w = w32} (record { sfits = h }) ∙ e

-- a node that is evaluated, as it was read, and its number, which is to fall
pub record At (l : Bytes) (C : ℕ) (S : List ℕ) (s n of_class : ℕ) (ns : List ℤ) (ν : Node) (t : ℕ) : Type 0 where
  pub ready : Ready l C S s
  pub evaluating : Evaluating l n of_class ns
  pub is_node : ν ≡ node l n
  pub is_number : n ≡ t

module _ {l : Bytes} {C : ℕ} {S : List ℕ} {s n κ : ℕ} {ns : List ℤ} {ν : Node} {t : ℕ} (p : At l C S s n κ ns ν t) where
  abbrev acc : Accepted l
  acc = p.ready.accepted

  abbrev below : n < (header l).nodes
  below = p.evaluating.node_below

  abbrev fits : node_fits (header l).conditions n (node l n) ≡ true
  fits = acc.nodes_fit n below

  abbrev in_order : classed l n ≡ true
  in_order = acc.nodes_classed n below

  pub is_kind : {k : ℕ} → ν.kind ≡ k → (node l n).kind ≡ k
  is_kind e = sym (ap (λ ν. ν.kind) p.is_node) ∙ e

  pub arithmetic_kind : κ ≡ 1 → ν.kind < 5
  unfolding class
  arithmetic_kind e = rw p.is_node (ltb-true _ 5 (rw (p.evaluating.is_class ∙ e) at (all_in_class (node l n).kind)))

  pub boolean_kind : κ ≡ 2 → (7 < ν.kind) × (ν.kind < 14)
  unfolding class
  boolean_kind e =
      let range = both _ _ (rw (p.evaluating.is_class ∙ e) at (all_in_class (node l n).kind)) in
      rw p.is_node (ltb-true 7 _ range.0, ltb-true _ 14 range.1)

  pub statement_kind : κ ≡ 3 → (15 < ν.kind) × (ν.kind < 24)
  unfolding class
  statement_kind e =
      let range = both _ _ (rw (p.evaluating.is_class ∙ e) at (all_in_class (node l n).kind)) in
      rw p.is_node (ltb-true 15 _ range.0, ltb-true _ 24 range.1)

  -- the kind is known
  pub known : (κ ≡ 0 → ⊥) → layout ν.kind ≡ 0 → ⊥
  unfolding class
  known some_class none = some_class (sym p.evaluating.is_class ∙ ap class_digit (ap (λ ν. layout ν.kind) (sym p.is_node) ∙ none))

  -- what is none of the other kinds of its class is a choice
  pub left_arithmetic : {k : Kind} → κ ≡ 1 → kind_number k ≡ ν.kind → (k ≡ Number → ⊥) → (k ≡ Variable → ⊥) → (k ≡ Sum → ⊥) → (k ≡ Pick → ⊥) → ν.kind ≡ 4
  left_arithmetic e is_k n0 n1 n2 n3 = let range = arithmetic_kind e in grind arith

  pub left_boolean : {k : Kind} → κ ≡ 2 → kind_number k ≡ ν.kind → (k ≡ False → ⊥) → (k ≡ True → ⊥) → (k ≡ Not → ⊥) → (k ≡ And → ⊥) → (k ≡ Less → ⊥) → ν.kind ≡ 13
  left_boolean e is_k n8 n9 n10 n11 n12 = let range = boolean_kind e in grind arith

  -- ---- what a call at a child asks for

  abbrev pub Call : ℕ → ℕ → Type 0
  Call x slot = (x < t) × Evaluating l x slot ns

  call : {x slot : ℕ} → Child l n slot x → Call x slot
  call h = (
    omega (arith, h.is_lower, p.is_number),
    record { node_below = omega (arith, h.is_lower, below); is_class = h.is_class; sixteen = p.evaluating.sixteen },
  )

  pub in_a : (k : ℕ) → ν.kind ≡ k → names_node (a_digit (layout k)) ≡ true → Child l n (a_digit (layout k)) (node l n).a
  in_a k e = child_a l (header l).conditions n fits in_order k (is_kind e)

  pub in_b : (k : ℕ) → ν.kind ≡ k → names_node (b_digit (layout k)) ≡ true → Child l n (b_digit (layout k)) (node l n).b
  in_b k e = child_b l (header l).conditions n fits in_order k (is_kind e)

  pub in_c : (k : ℕ) → ν.kind ≡ k → names_node (c_digit (layout k)) ≡ true → Child l n (c_digit (layout k)) (node l n).c
  in_c k e = child_c l (header l).conditions n fits in_order k (is_kind e)

  pub call_a : (k : ℕ) → ν.kind ≡ k → names_node (a_digit (layout k)) ≡ true → Call ν.a (a_digit (layout k))
  call_a k e names = rw p.is_node (call (in_a k e names))

  pub call_b : (k : ℕ) → ν.kind ≡ k → names_node (b_digit (layout k)) ≡ true → Call ν.b (b_digit (layout k))
  call_b k e names = rw p.is_node (call (in_b k e names))

  pub call_c : (k : ℕ) → ν.kind ≡ k → names_node (c_digit (layout k)) ≡ true → Call ν.c (c_digit (layout k))
  call_c k e names = rw p.is_node (call (in_c k e names))

  -- one of two sides
  pub call_side : {x slot : ℕ} (u : Bool) → x ≡ cond u ν.b ν.c → Call ν.b slot → Call ν.c slot → Call x slot
  call_side true e hb hc = rw e hb
  call_side false e hb hc = rw e hc

  pub call_chosen : {x slot : ℕ} → x ≡ cond (bit (get_or S ν.a 0) s) ν.b ν.c → Call ν.b slot → Call ν.c slot → Call x slot
  call_chosen = call_side (bit (get_or S ν.a 0) s)

  pub call_decided : {x slot : ℕ} → x ≡ cond (truth_in s (read l ν.a).boolean ns) ν.b ν.c → Call ν.b slot → Call ν.c slot → Call x slot
  call_decided = call_side (truth_in s (read l ν.a).boolean ns)

  -- ---- what is looked up is there

  condition_there : (k : ℕ) → ν.kind ≡ k → is_choice k ≡ true → (node l n).a < (header l).conditions
  condition_there k e choice = choice_condition l acc n below (rw (is_kind e) choice)

  pub variable_there : ν.kind ≡ 1 → ν.variable < length ns
  unfolding layout kinds
  variable_there e =
      let here : (node l n).variable < 16 = variable_below l (header l).conditions n fits in_order 1 (is_kind e) refl refl in
      rw p.is_node (omega (arith, here, p.evaluating.sixteen))

  -- ---- the value, kind by kind

  abbrev value : ℕ → ℤ
  value x = value_in s (read l x).arithmetic ns

  abbrev truth : ℕ → Bool
  truth x = truth_in s (read l x).boolean ns

  -- the value of the tree that is read
  valued : {a : Arithmetic Condition} → (read l n).arithmetic ≡ a → value_in s a ns ≡ value n
  valued e = ap (λ a. value_in s a ns) (sym e)

  judged : {e : Boolean Condition} → (read l n).boolean ≡ e → truth_in s e ns ≡ truth n
  judged e = ap (λ e. truth_in s e ns) (sym e)

  -- the condition's set says which side of a choice is taken
  pub chosen : (k : ℕ) → ν.kind ≡ k → is_choice k ≡ true → bit (get_or S (node l n).a 0) s ≡ holds (condition l (node l n).a) s
  chosen k e choice = chosen_is l C S s (node l n).a p.ready (condition_there k e choice)

  pub number_is : ν.kind ≡ 0 → signed32 ν.value ≡ value n
  unfolding value_in
  number_is e = rw p.is_node (valued (number_at l n (is_kind e)))

  pub variable_is : ν.kind ≡ 1 → get_or ns ν.variable (pos 0) ≡ value n
  unfolding value_in
  variable_is e = rw p.is_node (valued (variable_at l n (is_kind e)))

  pub sum_is : {x y : ℤ} → ν.kind ≡ 2 → mag x < 2147483648 → mag y < 2147483648 → x ≡ value ν.a → y ≡ value ν.b
      → wrap (to_z w32 (of_z w32 x) +ℤ to_z w32 (of_z w32 y)) ≡ value n
  unfolding value_in layout kinds names_node
  sum_is e f g a b = rw (through f a, through g b, p.is_node) (valued (sum_at l n (is_kind e) (in_a 2 e refl).is_lower (in_b 2 e refl).is_lower))

  pub pick_is : {x : ℕ} {u : Bool} → ν.kind ≡ 3 → x ≡ cond u ν.b ν.c → u ≡ truth ν.a → value x ≡ value n
  unfolding value_in layout kinds names_node
  pick_is e side test = rw (side, test, p.is_node)
      (of_side value (truth (node l n).a) _ _
      ∙ valued (pick_at l n (is_kind e) (in_a 3 e refl).is_lower (in_b 3 e refl).is_lower (in_c 3 e refl).is_lower))

  pub choiceᵃ_is : {x : ℕ} → ν.kind ≡ 4 → x ≡ cond (bit (get_or S ν.a 0) s) ν.b ν.c → value x ≡ value n
  unfolding value_in layout kinds names_node is_choice
  choiceᵃ_is e side = rw (side, p.is_node, chosen 4 e refl)
      (of_side value (holds (condition l (node l n).a) s) _ _
      ∙ valued (choiceᵃ_at l n (is_kind e) (in_b 4 e refl).is_lower (in_c 4 e refl).is_lower))

  pub falseᵇ_is : ν.kind ≡ 8 → false ≡ truth n
  unfolding truth_in
  falseᵇ_is e = judged (falseᵇ_at l n (is_kind e))

  pub trueᵇ_is : ν.kind ≡ 9 → true ≡ truth n
  unfolding truth_in
  trueᵇ_is e = judged (trueᵇ_at l n (is_kind e))

  pub notᵇ_is : {u : Bool} → ν.kind ≡ 10 → u ≡ truth ν.a → not u ≡ truth n
  unfolding truth_in layout kinds names_node
  notᵇ_is e a = rw (a, p.is_node) (judged (notᵇ_at l n (is_kind e) (in_a 10 e refl).is_lower))

  pub andᵇ_is : {u w : Bool} → ν.kind ≡ 11 → u ≡ truth ν.a → w ≡ truth ν.b → (u && w) ≡ truth n
  unfolding truth_in layout kinds names_node
  andᵇ_is e a b = rw (a, b, p.is_node) (judged (andᵇ_at l n (is_kind e) (in_a 11 e refl).is_lower (in_b 11 e refl).is_lower))

  pub less_is : {x y : ℤ} → ν.kind ≡ 12 → mag x < 2147483648 → mag y < 2147483648 → x ≡ value ν.a → y ≡ value ν.b
      → lt_z (to_z w32 (of_z w32 x)) (to_z w32 (of_z w32 y)) ≡ truth n
  unfolding truth_in layout kinds names_node
  less_is e f g a b = rw (through f a, through g b, p.is_node) (judged (less_at l n (is_kind e) (in_a 12 e refl).is_lower (in_b 12 e refl).is_lower))

  pub choiceᵇ_is : {x : ℕ} → ν.kind ≡ 13 → x ≡ cond (bit (get_or S ν.a 0) s) ν.b ν.c → truth x ≡ truth n
  unfolding truth_in layout kinds names_node is_choice
  choiceᵇ_is e side = rw (side, p.is_node, chosen 13 e refl)
      (of_side truth (holds (condition l (node l n).a) s) _ _
      ∙ judged (choiceᵇ_at l n (is_kind e) (in_b 13 e refl).is_lower (in_c 13 e refl).is_lower))
