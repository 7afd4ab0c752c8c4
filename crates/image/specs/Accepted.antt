-- What tests 1 to 8 accept: an image of which each sentence of "The image" holds.
use Rattle.std.specs.Prelude.{◌≡◌, true, ℕ, suc, ◌+◌, ◌*◌, ◌≤◌, ◌<◌, length}
use Rattle.image.specs.Bytes.{Bytes}
use Rattle.image.specs.Records.{header, condition_record, node}
use Rattle.image.specs.Rows.{condition_fits, node_fits, classed, names}

pub record Accepted (l : Bytes) : Type 0 where
  pub edition_is : (header l).edition ≡ 1
  pub zero_is : (header l).zero ≡ 0
  pub few_options : (header l).options ≤ 6
  pub few_conditions : (header l).conditions ≤ 256
  pub some_node : 1 ≤ (header l).nodes
  pub few_nodes : (header l).nodes ≤ 1024
  pub length_is : length l ≡ 8 + 4 * (header l).conditions + 8 * (header l).nodes
  pub conditions_fit : (k : ℕ) → k < (header l).conditions → condition_fits (header l).options k (condition_record l k) ≡ true
  pub nodes_fit : (n : ℕ) → n < (header l).nodes → node_fits (header l).conditions n (node l n) ≡ true
  pub nodes_classed : (n : ℕ) → n < (header l).nodes → classed l n ≡ true
  pub named_once : (k : ℕ) → suc k < (header l).nodes → names l (header l).nodes k ≡ 1
