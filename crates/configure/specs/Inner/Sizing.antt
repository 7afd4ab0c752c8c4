-- What the counting of a node's configured term asks for: the sizes of the nodes before it.
use Rattle.std.specs.Prelude.{◌≡◌, ℕ, ◌≤◌, ◌<◌, List, length, get_or}
use Rattle.image.specs.Bytes.{Bytes}
use Rattle.image.specs.Records.{header}
use Rattle.image.specs.Term.{size}
use Rattle.configure.specs.Inner.Term.{term_at}

-- the sizes of the terms of the first n nodes
pub record SizesOf (l : Bytes) (s n : ℕ) (sizes : List ℕ) : Type 0 where
  pub right : (k : ℕ) → k < n → get_or sizes k 0 ≡ size (term_at l s k)

pub record Sizing (l : Bytes) (s n : ℕ) (sizes : List ℕ) : Type 0 where
  pub node_below : n < (header l).nodes
  pub before : SizesOf l s n sizes
  pub kept : n ≤ length sizes
