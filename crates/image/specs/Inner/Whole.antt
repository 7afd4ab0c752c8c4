-- What the earlier tests leave known of an image to the later ones. Tests 1 to 4: the header's counts, and the length of just their records.
use Rattle.std.specs.Prelude.{◌≡◌, true, ℕ, ◌+◌, ◌*◌, ◌<◌, length}
use Rattle.image.specs.Bytes.{Bytes}
use Rattle.image.specs.Records.{header, node}
use Rattle.image.specs.Rows.{node_fits}

pub record Whole (l : Bytes) (conditions nodes : ℕ) : Type 0 where
  pub conditions_are : conditions ≡ (header l).conditions
  pub nodes_are : nodes ≡ (header l).nodes
  pub length_is : length l ≡ 8 + 4 * conditions + 8 * nodes

-- what test 6 leaves known besides: every node fits
pub record Fitting (l : Bytes) (conditions nodes : ℕ) : Type 0 where
  pub whole : Whole l conditions nodes
  pub fits : (n : ℕ) → n < nodes → node_fits conditions n (node l n) ≡ true
