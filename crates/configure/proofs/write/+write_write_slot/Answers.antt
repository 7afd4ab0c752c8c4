-- `write` and `write_slot` meet their contracts together. The measure of node n is 2n + 2, and of a field that names node m it is 2m + 3: a node's fields
-- name lower nodes, so each call's is less. What is written follows from the laws of Nodes and Branches.
use mathlib.Core.Path.{◌≡◌, refl, sym, subst, ◌∙◌}
use mathlib.Core.Bool.{Bool, true, false, cond}
use Prim.Native.Nat.{ℕ, ◌+◌, ◌*◌, ◌≤◌, ◌<◌}
use mathlib.Core.List.{List}
use native.Mathlib.Omega.{arith}
use Rattle.image.specs.declared.records.Node.{Node}
use Rattle.image.specs.Layout.{names_node, layout, is_choice}
use Rattle.image.specs.Term.{size, branch_size}
use Rattle.configure.specs.Inner.Term.{term_at}
use Rattle.configure.specs.Inner.Writing.{Writing, hung, SlotWriting}
use Rattle.configure.proofs.Branches.{child_writing, child_wrote, none_wrote}
use Rattle.configure.proofs.Nodes as Nodes
use lib.ListN.{get_or}
use Rattle.sets.specs.Member.{bit}
use Rattle.image.specs.Inner.Ready.{Ready}
use Rattle.image.specs.Records as records
use Rattle.configure.proofs.write.+write_write_slot.Goals as goal

-- ---- what is known once the node is read

node : {l : List ℕ} {conditions : ℕ} {condition_sets : List ℕ} {s n at space : ℕ} {ν : Node} → Ready l conditions condition_sets s
    → Writing l s n at space → ν ≡ records.node l n → Nodes.Read l conditions condition_sets s n at space ν
node ready writing is_node = record { ready = ready; writing = writing; is_node = is_node }

-- what is asked of the layout and the kind of a node that is no choice
other : {ν : Node} {digits : ℕ} {asked : Bool} → digits ≡ layout ν.kind → asked ≡ is_choice ν.kind → asked ≡ false → Nodes.Other ν digits
other is_layout asked_is asked_no = record { is_layout = is_layout; no_choice = sym asked_is ∙ asked_no }

module _ {l : List ℕ} {conditions : ℕ} {condition_sets : List ℕ} {s n at space : ℕ} {ν : Node} (here : Nodes.Read l conditions condition_sets s n at space ν) where
  part : {x : ℕ} → x ≡ cond (bit (get_or condition_sets ν.a 0) s) ν.b ν.c → is_choice ν.kind ≡ true → Nodes.Chosen l s n x
  part e choice = subst (λ x. Nodes.Chosen l s n x) (sym e) (Nodes.chosen here choice)

  -- the part may be written in the node's place
  part_next : {x t : ℕ} → Nodes.Chosen l s n x → 2 * n + 2 ≡ t → (2 * x + 2 < t) × Writing l s x at space
  part_next part measure = (omega (arith, part.is_lower, measure), Nodes.part_writing here part)

  -- a child may be written where it ends no later than the node
  child : {t slot value next space' : ℕ} → 2 * n + 2 ≡ t → (names_node slot ≡ true → value < n)
      → next + branch_size (hung l s slot value) ≤ at + size (term_at l s n) → space' ≡ space
      → (cond (names_node slot) (2 * value + 3) 0 < t) × SlotWriting l s slot value next space'
  child {slot = slot} measure lower le same =
      (omega (arith, Nodes.slot_falls slot lower, measure), Nodes.slot_writing here lower le same)

  -- the children are written
  few : {out out' : List ℕ} {p q r : ℕ} → Nodes.Finished l s n at out out' ν p q r → r + 1 ≤ 1024
  few finished = omega (arith, finished.next_is, here.writing.few)

pub write-write-requires : goal.write-write-requires
write-write-requires t c =
    let here = node c.args.setting.now.ready c.requires c.node-node.ensures in
    part_next here (part here c.chosen-part.ensures (sym c.is_choice.ensures ∙ c.if-is_choice.true)) c.decreases

pub write-returns-then-is_choice : goal.write-returns-then-is_choice
write-returns-then-is_choice t c =
    let here = node c.args.setting.now.ready c.requires c.node-node.ensures in
    Nodes.part_wrote here (part here c.chosen-part.ensures (sym c.is_choice.ensures ∙ c.if-is_choice.true)) c.write.ensures

pub write-write_slot-after_a-requires : goal.write-write_slot-after_a-requires
write-write_slot-after_a-requires t c =
    let here = node c.args.setting.now.ready c.requires c.node-node.ensures in
    let parts = Nodes.slots here (other c.layout-digits.ensures c.is_choice.ensures c.if-is_choice.false) in
    child here c.decreases parts.a_lower (omega (arith, parts.size_is)) refl

pub write-write_slot-after_b-requires : goal.write-write_slot-after_b-requires
write-write_slot-after_b-requires t c =
    let here = node c.args.setting.now.ready c.requires c.node-node.ensures in
    let parts = Nodes.slots here (other c.layout-digits.ensures c.is_choice.ensures c.if-is_choice.false) in
    child here c.decreases parts.b_lower (omega (arith, parts.size_is, c.write_slot-after_a.ensures.next_is)) c.write_slot-after_a.auto.out

pub write-write_slot-after_c-requires : goal.write-write_slot-after_c-requires
write-write_slot-after_c-requires t c =
    let here = node c.args.setting.now.ready c.requires c.node-node.ensures in
    let parts = Nodes.slots here (other c.layout-digits.ensures c.is_choice.ensures c.if-is_choice.false) in
    let a = c.write_slot-after_a in
    let b = c.write_slot-after_b in
    child here c.decreases parts.c_lower (omega (arith, parts.size_is, a.ensures.next_is, b.ensures.next_is)) (b.auto.out ∙ a.auto.out)

-- ---- the children are written

pub write-own_word-own-requires : goal.write-own_word-own-requires
write-own_word-own-requires t c =
    let here = node c.args.setting.now.ready c.requires c.node-node.ensures in
    let no_choice = other c.layout-digits.ensures c.is_choice.ensures c.if-is_choice.false in
    let finished = Nodes.finished here no_choice c.write_slot-after_a.ensures c.write_slot-after_b.ensures c.write_slot-after_c.ensures in
    finished.ended

pub write-overflow_mul-after_c : goal.write-overflow_mul-after_c
write-overflow_mul-after_c t c =
    let here = node c.args.setting.now.ready c.requires c.node-node.ensures in
    let no_choice = other c.layout-digits.ensures c.is_choice.ensures c.if-is_choice.false in
    let finished = Nodes.finished here no_choice c.write_slot-after_a.ensures c.write_slot-after_b.ensures c.write_slot-after_c.ensures in
    omega (arith, few here finished)

pub write-overflow_add-after_c : goal.write-overflow_add-after_c
write-overflow_add-after_c t c =
    let here = node c.args.setting.now.ready c.requires c.node-node.ensures in
    let no_choice = other c.layout-digits.ensures c.is_choice.ensures c.if-is_choice.false in
    let finished = Nodes.finished here no_choice c.write_slot-after_a.ensures c.write_slot-after_b.ensures c.write_slot-after_c.ensures in
    omega (arith, few here finished)

pub write-put-requires : goal.write-put-requires
write-put-requires t c =
    let here = node c.args.setting.now.ready c.requires c.node-node.ensures in
    let no_choice = other c.layout-digits.ensures c.is_choice.ensures c.if-is_choice.false in
    let finished = Nodes.finished here no_choice c.write_slot-after_a.ensures c.write_slot-after_b.ensures c.write_slot-after_c.ensures in
    omega (arith, finished.next_is, c.requires.fits, c.write_slot-after_a.auto.out, c.write_slot-after_b.auto.out, c.write_slot-after_c.auto.out)

pub write-overflow_add-result : goal.write-overflow_add-result
write-overflow_add-result t c =
    let here = node c.args.setting.now.ready c.requires c.node-node.ensures in
    let no_choice = other c.layout-digits.ensures c.is_choice.ensures c.if-is_choice.false in
    let finished = Nodes.finished here no_choice c.write_slot-after_a.ensures c.write_slot-after_b.ensures c.write_slot-after_c.ensures in
    omega (arith, few here finished)

pub write-returns : goal.write-returns
write-returns t c =
    let here = node c.args.setting.now.ready c.requires c.node-node.ensures in
    let no_choice = other c.layout-digits.ensures c.is_choice.ensures c.if-is_choice.false in
    let finished = Nodes.finished here no_choice c.write_slot-after_a.ensures c.write_slot-after_b.ensures c.write_slot-after_c.ensures in
    finished.wrote c.own_word-own.ensures c.put.ensures

pub write_slot-write-requires : goal.write_slot-write-requires
write_slot-write-requires t c =
    let names = sym c.names_node.ensures ∙ c.if-names_node.true in
    (omega (arith, rw names at c.decreases), child_writing _ _ _ _ names c.requires)

pub write_slot-returns-then-names_node : goal.write_slot-returns-then-names_node
write_slot-returns-then-names_node t c =
    let names = sym c.names_node.ensures ∙ c.if-names_node.true in
    child_wrote _ _ _ _ names c.write.ensures

pub write_slot-returns : goal.write_slot-returns
write_slot-returns t c = none_wrote _ _ _ _ (sym c.names_node.ensures ∙ c.if-names_node.false)
