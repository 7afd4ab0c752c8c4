-- What the evaluation of a node of an accepted image asks for: a node of the right class, and sixteen numbers.
use Rattle.std.specs.Prelude.{◌≡◌, ℕ, ◌<◌, List, ℤ, length}
use Rattle.image.specs.Bytes.{Bytes}
use Rattle.image.specs.Records.{header}
use Rattle.image.specs.Rows.{class}

pub record Evaluating (l : Bytes) (n of_class : ℕ) (numbers : List ℤ) : Type 0 where
  pub node_below : n < (header l).nodes
  pub is_class : class l n ≡ of_class
  pub sixteen : length numbers ≡ 16
