-- `is_leaf` meets its contract: of the kinds of arithmetic only these two are below that of sums.
use Rattle.std.proofs.Common.{◌≡◌, ◌∙◌, sym, ap, ℕ, ltb, true, false, ◌⊎◌, arith}
use Rattle.std.proofs.lemmas.Bool.Decides.{nat_tests}
use Rattle.image.specs.declared.kinds.Kind.{Kind}
use Rattle.image.specs.declared.kinds.Kind.TheVariants.{Number, Variable}
use Rattle.image.specs.declared.records.Node.{Node}
use Rattle.image.specs.Kinds.{kind_number}
use Rattle.listing.proofs.Theorem.Short.{short_part}
use Rattle.listing.proofs.Theorem.Image.{kind_known}
use Rattle.listing.proofs.short.is_leaf.Goals as goal

leaf : {k : Kind} {κ : ℕ} → kind_number k ≡ κ → (k ≡ Number) ⊎ (k ≡ Variable) → true ≡ ltb κ 2
leaf e is = grind (arith, nat_tests)

no_leaf : {k : Kind} {κ : ℕ} → kind_number k ≡ κ → (k ≡ Number → ⊥) → (k ≡ Variable → ⊥) → false ≡ ltb κ 2
no_leaf e number variable = grind (arith, nat_tests)

pub kind-requires : goal.kind-requires
kind-requires c = kind_known c.requires.accepted c.requires.node_below c.node-node.ensures

pub returns-in-Number : goal.returns-in-Number
returns-in-Number c =
    leaf (c.kind.ensures ∙ ap (λ (ν : Node). ν.kind) c.node-node.ensures) c.in-Number.is ∙ sym (short_part _ c.args.n c.requires.is_class)

pub returns-in_default : goal.returns-in_default
returns-in_default c =
    no_leaf (c.kind.ensures ∙ ap (λ (ν : Node). ν.kind) c.node-node.ensures) c.in_default.not-Number c.in_default.not-Variable
    ∙ sym (short_part _ c.args.n c.requires.is_class)
