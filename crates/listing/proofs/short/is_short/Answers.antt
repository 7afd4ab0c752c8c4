-- `is_short` meets its contract: by the kind of the statement, and of what it holds.
use Rattle.std.proofs.Common.{◌≡◌, ◌∙◌, sym, ap, ℕ, List, false, ◌⊎◌, arith}
use Rattle.image.specs.declared.kinds.Kind.{Kind}
use Rattle.image.specs.declared.kinds.Kind.TheVariants.{Skip, Assign, Throw}
use Rattle.image.specs.declared.records.Node.{Node}
use Rattle.image.specs.Kinds.{kind_number}
use Rattle.image.specs.Records.{node}
use Rattle.image.specs.Tree.{read}
use Rattle.written.specs.Lister.{shortᵃ, short}
use Rattle.listing.specs.Inner.Listing.{Asking}
use Rattle.listing.proofs.Theorem.Short.{long, skip_short, held, held_short}
use Rattle.listing.proofs.Theorem.Image.{kind_known}
use Rattle.listing.proofs.short.is_short.Goals as goal

-- of a node as it was read, and its kind
module _ {l : List ℕ} {n : ℕ} (pre : Asking l n 3) {ν : Node} (is : ν ≡ node l n) (k : Kind) (kind : kind_number k ≡ ν.kind) where
  kind_is : kind_number k ≡ (node l n).kind
  kind_is = kind ∙ ap (λ ν. ν.kind) is

  holds : (k ≡ Assign) ⊎ (k ≡ Throw) → ((node l n).kind ≡ 17) ⊎ ((node l n).kind ≡ 21)
  holds = let e = kind_is in λ is. grind arith

  asking : (k ≡ Assign) ⊎ (k ≡ Throw) → Asking l ν.a 1
  asking e =
      let child = held l pre.accepted n pre.node_below (holds e) in
      rw is (record { accepted = pre.accepted; node_below = omega (arith, child.is_lower, pre.node_below); is_class = child.is_class })

  as_held : (k ≡ Assign) ⊎ (k ≡ Throw) → shortᵃ (read l ν.a).arithmetic ≡ short (read l n).statement
  as_held e = rw is (sym (held_short l pre.accepted n pre.node_below (holds e)))

  no_other : (k ≡ Skip → ⊥) → (k ≡ Assign → ⊥) → (k ≡ Throw → ⊥) → short (read l n).statement ≡ false
  no_other skip assign throw =
      let e = kind_is in
      long l n pre.is_class (λ s. grind arith) (λ a. grind arith) (λ t. grind arith)

pub kind-requires : goal.kind-requires
kind-requires c = kind_known c.requires.accepted c.requires.node_below c.node-node.ensures

pub is_leaf-requires : goal.is_leaf-requires
is_leaf-requires c = asking c.requires c.node-node.ensures _ c.kind.ensures c.in-Assign.is

pub returns-in-Skip : goal.returns-in-Skip
returns-in-Skip c = sym (skip_short c.args.routine.image.now c.args.n (sym (c.in-Skip.ensures ∙ ap (λ (ν : Node). ν.kind) c.node-node.ensures)))

pub returns-in-Assign : goal.returns-in-Assign
returns-in-Assign c = c.is_leaf.ensures ∙ as_held c.requires c.node-node.ensures _ c.kind.ensures c.in-Assign.is

pub returns-in_default : goal.returns-in_default
returns-in_default c =
    sym (no_other c.requires c.node-node.ensures _ c.kind.ensures c.in_default.not-Skip c.in_default.not-Assign c.in_default.not-Throw)
