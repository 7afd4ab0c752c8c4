-- `size_of` meets its contract: a choice has its chosen part's size, any other node one more than its children's together.
use mathlib.Core.Path.{◌≡◌, refl, sym, ◌∙◌, ap}
use mathlib.Core.Bool.{Bool, true, false, cond}
use mathlib.Core.List.{List}
use Prim.Native.Nat.{ℕ, ◌+◌, ◌≤◌, ◌<◌}
use native.Mathlib.Omega.{arith}
use lib.ListN.{length, get_or}
use Rattle.sets.specs.Member.{bit}
use Rattle.image.specs.Records.{header, node}
use Rattle.image.specs.Layout.{layout, a_digit, b_digit, c_digit, names_node, is_choice}
use Rattle.image.specs.Term.{size, branch_size}
use Rattle.image.specs.Inner.Lower.{Lower}
use Rattle.image.specs.Inner.Ready.{Ready}
use Rattle.image.proofs.Theorem.Lower.{lower}
use Rattle.configure.specs.Inner.Term.{hang, term_at}
use Rattle.configure.specs.Inner.Sizing.{SizesOf, Sizing}
use Rattle.configure.specs.Theorem.Terms.{choice_term, node_term}
use Rattle.configure.specs.Theorem.Small.{size_small}
use Rattle.image.proofs.Theorem.Choosing.{choice_condition, choice_b, choice_c, chosen_is, chosen_lower}
use Rattle.image.specs.declared.records.Node.{Node}
use Rattle.configure.proofs.sizes.size_of.Goals as goal

-- what a field adds
slot_is : (l : List ℕ) (s n : ℕ) (sizes : List ℕ) (u : Bool) (v : ℕ) → SizesOf l s n sizes → (u ≡ true → v < n)
    → cond u (get_or sizes v 0) 0 ≡ branch_size (hang u (term_at l s) v)
unfolding hang branch_size
slot_is l s n sizes true v before low = before.right v (low refl)
slot_is l s n sizes false v before low = refl

-- what is known once the node is read
module _ (l : List ℕ) {conditions : ℕ} {condition_sets : List ℕ} (s n : ℕ) {sizes : List ℕ} (ready : Ready l conditions condition_sets s) (pre : Sizing l s n sizes) where
  low : Lower n (node l n)
  low = lower (header l).conditions n (node l n) (ready.accepted.nodes_fit n pre.node_below)

  -- ---- a choice

  module _ (choice : is_choice (node l n).kind ≡ true) where
    b_below : (node l n).b < n
    b_below = choice_b l ready.accepted n pre.node_below choice

    c_below : (node l n).c < n
    c_below = choice_c l ready.accepted n pre.node_below choice

    part_below : (part : ℕ) → part ≡ cond (bit (get_or condition_sets (node l n).a 0) s) (node l n).b (node l n).c → part < n
    part_below part e = rw e (chosen_lower (bit (get_or condition_sets (node l n).a 0) s) (node l n).b (node l n).c n b_below c_below)

    -- the size of the chosen part is the choice's
    part_size : (part : ℕ) → part ≡ cond (bit (get_or condition_sets (node l n).a 0) s) (node l n).b (node l n).c
        → get_or sizes part 0 ≡ size (term_at l s n)
    part_size part e =
        let held = chosen_is l _ _ s _ ready (choice_condition l ready.accepted n pre.node_below choice) in
        pre.before.right part (part_below part e)
        ∙ ap (λ x. size (term_at l s x)) (e ∙ ap (λ u. cond u (node l n).b (node l n).c) held)
        ∙ sym (ap size (choice_term l s n choice b_below c_below))

  -- ---- as the code has it, of the node ν that it read

  module _ {ν : Node} (is_node : ν ≡ node l n) where
    is_read : {u : Bool} → is_choice ν.kind ≡ u → is_choice (node l n).kind ≡ u
    is_read e = ap (λ ν. is_choice ν.kind) (sym is_node) ∙ e

    module _ {part : ℕ} (part_chosen : part ≡ cond (bit (get_or condition_sets ν.a 0) s) ν.b ν.c) (choice : is_choice ν.kind ≡ true) where
      part_is : part ≡ cond (bit (get_or condition_sets (node l n).a 0) s) (node l n).b (node l n).c
      part_is = part_chosen ∙ ap (λ ν. cond (bit (get_or condition_sets ν.a 0) s) ν.b ν.c) is_node

      part_there : part < length sizes
      part_there = omega (arith, part_below (is_read choice) _ part_is, pre.kept)

      part_counted : get_or sizes part 0 ≡ size (term_at l s n)
      part_counted = part_size (is_read choice) _ part_is

    -- ---- any other node

    module _ {digits : ℕ} (is_layout : digits ≡ layout ν.kind) where
      abbrev d : ℕ
      d = layout (node l n).kind

      digits_are : digits ≡ d
      digits_are = is_layout ∙ ap (λ ν. layout ν.kind) is_node

      is_a : ν.a ≡ (node l n).a
      is_a = ap (λ ν. ν.a) is_node

      is_b : ν.b ≡ (node l n).b
      is_b = ap (λ ν. ν.b) is_node

      is_c : ν.c ≡ (node l n).c
      is_c = ap (λ ν. ν.c) is_node

      -- a child that a field names has its size
      a_there : names_node (a_digit digits) ≡ true → ν.a < length sizes
      a_there names = omega (arith, is_a, low.a_lower (ap (λ d. names_node (a_digit d)) (sym digits_are) ∙ names), pre.kept)

      b_there : names_node (b_digit digits) ≡ true → ν.b < length sizes
      b_there names = omega (arith, is_b, low.b_lower (ap (λ d. names_node (b_digit d)) (sym digits_are) ∙ names), pre.kept)

      c_there : names_node (c_digit digits) ≡ true → ν.c < length sizes
      c_there names = omega (arith, is_c, low.c_lower (ap (λ d. names_node (c_digit d)) (sym digits_are) ∙ names), pre.kept)

      -- one more than the children's together
      module _ {x y z : ℕ} (a_is : x ≡ cond (names_node (a_digit digits)) (get_or sizes ν.a 0) 0) (b_is : y ≡ cond (names_node (b_digit digits)) (get_or sizes ν.b 0) 0)
          (c_is : z ≡ cond (names_node (c_digit digits)) (get_or sizes ν.c 0) 0) (no_choice : is_choice ν.kind ≡ false) where
        in_a : x ≡ branch_size (hang (names_node (a_digit d)) (term_at l s) (node l n).a)
        in_a = a_is
            ∙ (λ i. cond (names_node (a_digit (digits_are i))) (get_or sizes (is_a i) 0) 0)
            ∙ slot_is l s n sizes (names_node (a_digit d)) (node l n).a pre.before low.a_lower

        in_b : y ≡ branch_size (hang (names_node (b_digit d)) (term_at l s) (node l n).b)
        in_b = b_is
            ∙ (λ i. cond (names_node (b_digit (digits_are i))) (get_or sizes (is_b i) 0) 0)
            ∙ slot_is l s n sizes (names_node (b_digit d)) (node l n).b pre.before low.b_lower

        in_c : z ≡ branch_size (hang (names_node (c_digit d)) (term_at l s) (node l n).c)
        in_c = c_is
            ∙ (λ i. cond (names_node (c_digit (digits_are i))) (get_or sizes (is_c i) 0) 0)
            ∙ slot_is l s n sizes (names_node (c_digit d)) (node l n).c pre.before low.c_lower

        whole : x + y + z + 1 ≡ size (term_at l s n)
        unfolding size
        whole = rw (node_term l s n (is_read no_choice) low.a_lower low.b_lower low.c_lower) (omega (arith, in_a, in_b, in_c))

        total_small : x + y + z + 1 ≤ 1024
        total_small = omega (arith, whole, size_small l ready.accepted s n pre.node_below, ready.accepted.few_nodes)

pub offset_bounds-sizes-part : goal.offset_bounds-sizes-part
offset_bounds-sizes-part c =
    let a = c.args in
    omega (arith, part_there a.setting.now.routine.image.now a.setting.now.s a.n c.args.setting.now.ready c.requires c.node-node.ensures c.chosen-part.ensures (sym c.is_choice.ensures ∙ c.if-is_choice.true))

pub bounds-sizes-part : goal.bounds-sizes-part
bounds-sizes-part c =
    let a = c.args in
    part_there a.setting.now.routine.image.now a.setting.now.s a.n c.args.setting.now.ready c.requires c.node-node.ensures c.chosen-part.ensures (sym c.is_choice.ensures ∙ c.if-is_choice.true)

pub returns-then-is_choice : goal.returns-then-is_choice
returns-then-is_choice c =
    let a = c.args in
    part_counted a.setting.now.routine.image.now a.setting.now.s a.n c.args.setting.now.ready c.requires c.node-node.ensures c.chosen-part.ensures (sym c.is_choice.ensures ∙ c.if-is_choice.true)

pub slot_size-in_a-requires : goal.slot_size-in_a-requires
slot_size-in_a-requires c = a_there c.args.setting.now.routine.image.now c.args.setting.now.s c.args.n c.args.setting.now.ready c.requires c.node-node.ensures c.layout-digits.ensures

pub slot_size-in_b-requires : goal.slot_size-in_b-requires
slot_size-in_b-requires c = b_there c.args.setting.now.routine.image.now c.args.setting.now.s c.args.n c.args.setting.now.ready c.requires c.node-node.ensures c.layout-digits.ensures

pub slot_size-in_c-requires : goal.slot_size-in_c-requires
slot_size-in_c-requires c = c_there c.args.setting.now.routine.image.now c.args.setting.now.s c.args.n c.args.setting.now.ready c.requires c.node-node.ensures c.layout-digits.ensures

pub overflow_add-result : goal.overflow_add-result
overflow_add-result c =
    let no_choice = sym c.is_choice.ensures ∙ c.if-is_choice.false in
    omega (arith, total_small c.args.setting.now.routine.image.now c.args.setting.now.s c.args.n c.args.setting.now.ready c.requires c.node-node.ensures c.layout-digits.ensures c.slot_size-in_a.ensures c.slot_size-in_b.ensures c.slot_size-in_c.ensures no_choice)

pub overflow_add-result-2 : goal.overflow_add-result-2
overflow_add-result-2 c =
    let no_choice = sym c.is_choice.ensures ∙ c.if-is_choice.false in
    omega (arith, total_small c.args.setting.now.routine.image.now c.args.setting.now.s c.args.n c.args.setting.now.ready c.requires c.node-node.ensures c.layout-digits.ensures c.slot_size-in_a.ensures c.slot_size-in_b.ensures c.slot_size-in_c.ensures no_choice)

pub overflow_add-result-3 : goal.overflow_add-result-3
overflow_add-result-3 c =
    let no_choice = sym c.is_choice.ensures ∙ c.if-is_choice.false in
    omega (arith, total_small c.args.setting.now.routine.image.now c.args.setting.now.s c.args.n c.args.setting.now.ready c.requires c.node-node.ensures c.layout-digits.ensures c.slot_size-in_a.ensures c.slot_size-in_b.ensures c.slot_size-in_c.ensures no_choice)

pub returns : goal.returns
returns c =
    let no_choice = sym c.is_choice.ensures ∙ c.if-is_choice.false in
    whole c.args.setting.now.routine.image.now c.args.setting.now.s c.args.n c.args.setting.now.ready c.requires c.node-node.ensures c.layout-digits.ensures c.slot_size-in_a.ensures c.slot_size-in_b.ensures c.slot_size-in_c.ensures no_choice
