-- `arithmetic` and `boolean` meet their contracts: the measure of both is the node's number, and each arm is the equation of its kind.
use mathlib.Core.Path.{◌≡◌, refl, sym, ◌∙◌}
use Prim.Native.Nat.{ℕ}
use native.Mathlib.Omega.{arith}
use borrow.Author.Rules.{rules}
use Rattle.image.specs.Layout.{kinds, layout, names_node}
use Rattle.plain.proofs.Evaluation.{At, through, call_a, call_b, call_c, call_side, call_chosen, variable_there, number_is, variable_is, sum_is, pick_is, choiceᵃ_is, falseᵇ_is, trueᵇ_is, notᵇ_is, andᵇ_is, less_is, choiceᵇ_is, known, left_arithmetic, left_boolean}
use mathlib.Core.List.{List}
use lib.IntN.{ℤ}
use Rattle.image.specs.declared.records.Node.{Node}
use Rattle.image.specs.Records.{node}
use Rattle.image.specs.Inner.Ready.{Ready}
use Rattle.plain.specs.Inner.Evaluating.{Evaluating}
use Rattle.plain.proofs.evaluate.+arithmetic_boolean.Goals as goal

-- a node that is evaluated, once it is read
here : {l : List ℕ} {C : ℕ} {S : List ℕ} {s n κ : ℕ} {ns : List ℤ} {ν : Node} {t : ℕ}
    → n ≡ t → Ready l C S s → Evaluating l n κ ns → ν ≡ node l n → At l C S s n κ ns ν t
here is_number ready evaluating is_node = record { ready = ready; evaluating = evaluating; is_node = is_node; is_number = is_number }

-- ---- arithmetic: what it returns

pub arithmetic-returns-in-Number : goal.arithmetic-returns-in-Number
arithmetic-returns-in-Number t c = through c.signed.type_inv (c.signed.ensures ∙ number_is (here c.decreases c.args.setting.now.ready c.requires c.node-node.ensures) (sym c.in-Number.ensures))

pub arithmetic-returns-in-Variable : goal.arithmetic-returns-in-Variable
arithmetic-returns-in-Variable t c = through (search rules) (variable_is (here c.decreases c.args.setting.now.ready c.requires c.node-node.ensures) (sym c.in-Variable.ensures))

pub arithmetic-returns-in-Sum : goal.arithmetic-returns-in-Sum
arithmetic-returns-in-Sum t c =
    let a = c.arithmetic-a in
    let b = c.arithmetic-b in
    through c.sum.type_inv c.sum.ensures
    ∙ sum_is (here c.decreases c.args.setting.now.ready c.requires c.node-node.ensures) (sym c.in-Sum.ensures)
    a.type_inv b.type_inv a.ensures b.ensures

pub arithmetic-returns-in-Pick : goal.arithmetic-returns-in-Pick
arithmetic-returns-in-Pick t c =
    through c.arithmetic.type_inv c.arithmetic.ensures
    ∙ pick_is (here c.decreases c.args.setting.now.ready c.requires c.node-node.ensures) (sym c.in-Pick.ensures)
    c.side.ensures c.boolean-test.ensures

pub arithmetic-returns-in_default : goal.arithmetic-returns-in_default
arithmetic-returns-in_default t c =
    let p = here c.decreases c.args.setting.now.ready c.requires c.node-node.ensures in
    let k = left_arithmetic p refl c.kind.ensures c.in_default.not-Number c.in_default.not-Variable c.in_default.not-Sum c.in_default.not-Pick in
    through c.arithmetic-in_default.type_inv c.arithmetic-in_default.ensures ∙ choiceᵃ_is p k c.chosen.ensures

-- ---- arithmetic: what its steps ask for

pub arithmetic-kind-requires : goal.arithmetic-kind-requires
arithmetic-kind-requires t c = known (here c.decreases c.args.setting.now.ready c.requires c.node-node.ensures) (λ e. omega arith)

pub arithmetic-offset_bounds-numbers-node : goal.arithmetic-offset_bounds-numbers-node
arithmetic-offset_bounds-numbers-node t c =
    omega (arith, variable_there (here c.decreases c.args.setting.now.ready c.requires c.node-node.ensures) (sym c.in-Variable.ensures), c.requires.sixteen)

pub arithmetic-bounds-numbers-node : goal.arithmetic-bounds-numbers-node
arithmetic-bounds-numbers-node t c = variable_there (here c.decreases c.args.setting.now.ready c.requires c.node-node.ensures) (sym c.in-Variable.ensures)

pub arithmetic-arithmetic-a-requires : goal.arithmetic-arithmetic-a-requires
unfolding layout kinds names_node
arithmetic-arithmetic-a-requires t c = call_a (here c.decreases c.args.setting.now.ready c.requires c.node-node.ensures) 2 (sym c.in-Sum.ensures) refl

pub arithmetic-arithmetic-b-requires : goal.arithmetic-arithmetic-b-requires
unfolding layout kinds names_node
arithmetic-arithmetic-b-requires t c = call_b (here c.decreases c.args.setting.now.ready c.requires c.node-node.ensures) 2 (sym c.in-Sum.ensures) refl

pub arithmetic-boolean-test-requires : goal.arithmetic-boolean-test-requires
unfolding layout kinds names_node
arithmetic-boolean-test-requires t c = call_a (here c.decreases c.args.setting.now.ready c.requires c.node-node.ensures) 3 (sym c.in-Pick.ensures) refl

pub arithmetic-arithmetic-requires : goal.arithmetic-arithmetic-requires
unfolding layout kinds names_node
arithmetic-arithmetic-requires t c =
    let p = here c.decreases c.args.setting.now.ready c.requires c.node-node.ensures in
    let k = (sym c.in-Pick.ensures) in
    call_side p c.boolean-test.result c.side.ensures (call_b p 3 k refl) (call_c p 3 k refl)

pub arithmetic-arithmetic-requires-in_default : goal.arithmetic-arithmetic-requires-in_default
unfolding layout kinds names_node
arithmetic-arithmetic-requires-in_default t c =
    let p = here c.decreases c.args.setting.now.ready c.requires c.node-node.ensures in
    let k = left_arithmetic p refl c.kind.ensures c.in_default.not-Number c.in_default.not-Variable c.in_default.not-Sum c.in_default.not-Pick in
    call_chosen p c.chosen.ensures (call_b p 4 k refl) (call_c p 4 k refl)

-- ---- boolean: what it returns

pub boolean-returns-in-False : goal.boolean-returns-in-False
boolean-returns-in-False t c = falseᵇ_is (here c.decreases c.args.setting.now.ready c.requires c.node-node.ensures) (sym c.in-False.ensures)

pub boolean-returns-in-True : goal.boolean-returns-in-True
boolean-returns-in-True t c = trueᵇ_is (here c.decreases c.args.setting.now.ready c.requires c.node-node.ensures) (sym c.in-True.ensures)

pub boolean-returns-in-Not : goal.boolean-returns-in-Not
boolean-returns-in-Not t c = notᵇ_is (here c.decreases c.args.setting.now.ready c.requires c.node-node.ensures) (sym c.in-Not.ensures) c.boolean.ensures

pub boolean-returns-in-And : goal.boolean-returns-in-And
boolean-returns-in-And t c =
    andᵇ_is (here c.decreases c.args.setting.now.ready c.requires c.node-node.ensures) (sym c.in-And.ensures) c.boolean-a.ensures c.boolean-b.ensures

pub boolean-returns-in-Less : goal.boolean-returns-in-Less
boolean-returns-in-Less t c =
    let a = c.arithmetic-a in
    let b = c.arithmetic-b in
    c.less.ensures
    ∙ less_is (here c.decreases c.args.setting.now.ready c.requires c.node-node.ensures) (sym c.in-Less.ensures)
    a.type_inv b.type_inv a.ensures b.ensures

pub boolean-returns-in_default : goal.boolean-returns-in_default
boolean-returns-in_default t c =
    let p = here c.decreases c.args.setting.now.ready c.requires c.node-node.ensures in
    let k = left_boolean p refl c.kind.ensures c.in_default.not-False c.in_default.not-True c.in_default.not-Not c.in_default.not-And c.in_default.not-Less in
    c.boolean-in_default.ensures ∙ choiceᵇ_is p k c.chosen.ensures

-- ---- boolean: what its steps ask for

pub boolean-kind-requires : goal.boolean-kind-requires
boolean-kind-requires t c = known (here c.decreases c.args.setting.now.ready c.requires c.node-node.ensures) (λ e. omega arith)

pub boolean-boolean-requires : goal.boolean-boolean-requires
unfolding layout kinds names_node
boolean-boolean-requires t c = call_a (here c.decreases c.args.setting.now.ready c.requires c.node-node.ensures) 10 (sym c.in-Not.ensures) refl

pub boolean-boolean-a-requires : goal.boolean-boolean-a-requires
unfolding layout kinds names_node
boolean-boolean-a-requires t c = call_a (here c.decreases c.args.setting.now.ready c.requires c.node-node.ensures) 11 (sym c.in-And.ensures) refl

pub boolean-boolean-b-requires : goal.boolean-boolean-b-requires
unfolding layout kinds names_node
boolean-boolean-b-requires t c = call_b (here c.decreases c.args.setting.now.ready c.requires c.node-node.ensures) 11 (sym c.in-And.ensures) refl

pub boolean-arithmetic-a-requires : goal.boolean-arithmetic-a-requires
unfolding layout kinds names_node
boolean-arithmetic-a-requires t c = call_a (here c.decreases c.args.setting.now.ready c.requires c.node-node.ensures) 12 (sym c.in-Less.ensures) refl

pub boolean-arithmetic-b-requires : goal.boolean-arithmetic-b-requires
unfolding layout kinds names_node
boolean-arithmetic-b-requires t c = call_b (here c.decreases c.args.setting.now.ready c.requires c.node-node.ensures) 12 (sym c.in-Less.ensures) refl

pub boolean-boolean-requires-in_default : goal.boolean-boolean-requires-in_default
unfolding layout kinds names_node
boolean-boolean-requires-in_default t c =
    let p = here c.decreases c.args.setting.now.ready c.requires c.node-node.ensures in
    let k = left_boolean p refl c.kind.ensures c.in_default.not-False c.in_default.not-True c.in_default.not-Not c.in_default.not-And c.in_default.not-Less in
    call_chosen p c.chosen.ensures (call_b p 13 k refl) (call_c p 13 k refl)
