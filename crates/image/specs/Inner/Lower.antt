-- "a node [names] only nodes with lower numbers".
use Rattle.std.specs.Prelude.{◌≡◌, true, ℕ, ◌<◌}
use Rattle.image.specs.declared.records.Node.{Node}
use Rattle.image.specs.Layout.{layout, a_digit, b_digit, c_digit, names_node}

-- the three fields that can name a node
pub record Lower (n : ℕ) (ν : Node) : Type 0 where
  pub a_lower : names_node (a_digit (layout ν.kind)) ≡ true → ν.a < n
  pub b_lower : names_node (b_digit (layout ν.kind)) ≡ true → ν.b < n
  pub c_lower : names_node (c_digit (layout ν.kind)) ≡ true → ν.c < n
