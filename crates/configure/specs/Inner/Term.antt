-- The configured term of a node: "Configuring for setting s replaces each choice by b if s is in its condition, else by c." Made from the terms of the
-- nodes before it, as the tree is read.
use Rattle.std.specs.Prelude.{ℕ, zero, suc, Bool, true, false, cond, eqb}
use Rattle.imp.specs.State.{branch}
use Rattle.imp.specs.Condition.{holds}
use Rattle.image.specs.declared.records.Node.{Node}
use Rattle.image.specs.Bytes.{Bytes}
use Rattle.image.specs.Records.{node}
use Rattle.image.specs.Layout.{layout, a_digit, b_digit, c_digit, names_node, is_choice}
use Rattle.image.specs.Tree.{condition}
use Rattle.image.specs.Term.{Term, term, Branch, none, some}

-- what hangs on a field that names a node, and on one that does not
unfoldable pub hang : Bool → (ℕ → Term) → ℕ → Branch
hang true at x = some (at x)
hang false at x = none

-- a node's term, where `at` gives those of the nodes before it
unfoldable pub configuring : Bytes → ℕ → (ℕ → Term) → Node → Term
configuring l s at ν =
    branch (is_choice ν.kind)
    (λ _. at (cond (holds (condition l ν.a) s) ν.b ν.c))
    (λ _. term ν.kind ν.variable (cond (eqb ν.kind 0) ν.value 0)
    (hang (names_node (a_digit (layout ν.kind))) at ν.a)
    (hang (names_node (b_digit (layout ν.kind))) at ν.b)
    (hang (names_node (c_digit (layout ν.kind))) at ν.c))
    (term 16 0 0 none none none)

-- the term of node k, from those below n
unfoldable pub term_below : Bytes → ℕ → ℕ → ℕ → Term
term_below l s zero k = term 16 0 0 none none none
term_below l s (suc n) k = branch (eqb k n) (λ _. configuring l s (term_below l s n) (node l n)) (λ _. term_below l s n k) (term 16 0 0 none none none)

unfoldable pub term_at : Bytes → ℕ → ℕ → Term
term_at l s n = configuring l s (term_below l s n) (node l n)
