-- `check_records` meets its contract: each loop finds the place of its row, and a row with no such place leaves the answer to the later ones.
use mathlib.Core.Path.{◌≡◌, sym, ◌∙◌}
use mathlib.Core.Bool.{not}
use mathlib.Core.List.{List, [], ◌∷◌}
use Prim.Native.Nat.{ℕ, ◌-◌, ◌≤◌}
use lib.ListN.{drop}
use Rattle.image.specs.declared.accept.Shape.{Shape}
use Rattle.image.specs.Bytes.{Bytes}
use Rattle.image.specs.Records.{condition_record, node}
use Rattle.image.specs.Rows.{Row, Answer, judge, lowest, lowest_row, condition_fits, node_fits, classed, named_wrong, check_rows}
use Rattle.image.specs.Inner.Headed.{Headed}
use Rattle.image.specs.Inner.Whole.{Fitting}
use Rattle.image.specs.Check.{shape_of}
use Rattle.image.proofs.Theorem.Lowest.{all_pass}
use Rattle.image.proofs.Judged.{found, not_found}
use Rattle.image.proofs.accept.check_records.Goals as goal

-- rows 5 to 8, in the counts that the code has
abbrev rows : Bytes → Shape → List Row
rows l shape =
    lowest_row 5 shape.conditions (λ k. not (condition_fits shape.options k (condition_record l k)))
    ∷ lowest_row 6 shape.nodes (λ n. not (node_fits shape.conditions n (node l n)))
    ∷ lowest_row 7 shape.nodes (λ n. not (classed l n))
    ∷ lowest_row 8 (shape.nodes - 1) (named_wrong l)
    ∷ []

-- what those after the first n answer
abbrev rest : Bytes → Shape → ℕ → Answer Shape
rest l shape n = judge (drop n (rows l shape)) shape

module _ (l : Bytes) (shape : Shape) where
  rows_are : Headed l shape → judge (drop 4 (check_rows l)) shape ≡ rest l shape 0
  unfolding check_rows shape_of
  rows_are headed = rw headed.shape_is

  -- each node fits once test 6 has passed
  fitting : Headed l shape → (k : ℕ) → k ≡ lowest shape.nodes (λ n. not (node_fits shape.conditions n (node l n))) → shape.nodes ≤ k
      → Fitting l shape.conditions shape.nodes
  fitting headed k e h = record { whole = headed.whole; fits = all_pass shape.nodes _ (rw e at h) }

  -- a search that finds nothing leaves the answer to the later rows
  past-5 : {k : ℕ} → k ≡ lowest shape.conditions (λ k. not (condition_fits shape.options k (condition_record l k))) → shape.conditions ≤ k
      → rest l shape 0 ≡ rest l shape 1
  past-5 e h = not_found 5 _ _ _ _ e h

  past-6 : {k : ℕ} → k ≡ lowest shape.nodes (λ n. not (node_fits shape.conditions n (node l n))) → shape.nodes ≤ k → rest l shape 1 ≡ rest l shape 2
  past-6 e h = not_found 6 _ _ _ _ e h

  past-7 : {k : ℕ} → k ≡ lowest shape.nodes (λ n. not (classed l n)) → shape.nodes ≤ k → rest l shape 2 ≡ rest l shape 3
  past-7 e h = not_found 7 _ _ _ _ e h

  past-8 : {k : ℕ} → k ≡ lowest (shape.nodes - 1) (named_wrong l) → shape.nodes - 1 ≤ k → rest l shape 3 ≡ rest l shape 4
  past-8 e h = not_found 8 _ _ _ _ e h

pub returns-then-condition-conditions : goal.returns-then-condition-conditions
returns-then-condition-conditions c =
    let shape = c.args.shape in
    found 5 _ _ _ _ c.lowest_condition-condition.ensures c.if-condition-conditions.true ∙ sym (rows_are c.args.image.now shape c.requires)

pub returns-then-node-nodes : goal.returns-then-node-nodes
returns-then-node-nodes c =
    let l = c.args.image.now in
    let shape = c.args.shape in
    found 6 _ _ _ _ c.lowest_node-node.ensures c.if-node-nodes.true ∙ sym (
    rows_are l shape c.requires ∙ past-5 l shape c.lowest_condition-condition.ensures c.if-condition-conditions.false
    )

pub lowest_class-parent-requires : goal.lowest_class-parent-requires
lowest_class-parent-requires c = fitting c.args.image.now c.args.shape c.requires _ c.lowest_node-node.ensures c.if-node-nodes.false

pub returns-then-parent-nodes : goal.returns-then-parent-nodes
returns-then-parent-nodes c =
    let l = c.args.image.now in
    let shape = c.args.shape in
    found 7 _ _ _ _ c.lowest_class-parent.ensures c.if-parent-nodes.true ∙ sym (
    rows_are l shape c.requires
    ∙ past-5 l shape c.lowest_condition-condition.ensures c.if-condition-conditions.false
    ∙ past-6 l shape c.lowest_node-node.ensures c.if-node-nodes.false
    )

pub lowest_named-named-requires : goal.lowest_named-named-requires
lowest_named-named-requires c =
    (fitting c.args.image.now c.args.shape c.requires _ c.lowest_node-node.ensures c.if-node-nodes.false, (c.requires.some_node, c.requires.few_nodes))

pub returns-then-named-nodes : goal.returns-then-named-nodes
returns-then-named-nodes c =
    let l = c.args.image.now in
    let shape = c.args.shape in
    found 8 _ _ _ _ c.lowest_named-named.ensures c.if-named-nodes.true ∙ sym (
    rows_are l shape c.requires
    ∙ past-5 l shape c.lowest_condition-condition.ensures c.if-condition-conditions.false
    ∙ past-6 l shape c.lowest_node-node.ensures c.if-node-nodes.false
    ∙ past-7 l shape c.lowest_class-parent.ensures c.if-parent-nodes.false
    )

pub returns : goal.returns
unfolding judge
returns c =
    let l = c.args.image.now in
    let shape = c.args.shape in
    sym (
    rows_are l shape c.requires
    ∙ past-5 l shape c.lowest_condition-condition.ensures c.if-condition-conditions.false
    ∙ past-6 l shape c.lowest_node-node.ensures c.if-node-nodes.false
    ∙ past-7 l shape c.lowest_class-parent.ensures c.if-parent-nodes.false
    ∙ past-8 l shape c.lowest_named-named.ensures c.if-named-nodes.false
    )
