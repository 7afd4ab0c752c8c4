-- The root is a statement: its text and its records are those of the routine.
use Rattle.std.specs.Prelude.{◌≡◌, ℕ, ◌-◌, ◌<◌}
use Rattle.std.proofs.Math.Path.{ap}
use Rattle.std.proofs.Common.{arith}
use Rattle.image.specs.Bytes.{Bytes}
use Rattle.image.specs.Records.{header}
use Rattle.image.specs.Rows.{class}
use Rattle.image.specs.Accepted.{Accepted}
use Rattle.image.specs.Tree.{read, routine}
use Rattle.image.proofs.Theorem.Held.{root_class}
use Rattle.written.specs.Count.{recordsˢ}
use Rattle.written.specs.Lister.{listedˢ}
use Rattle.listing.specs.Inner.Texts.{text_of, node_text}
use Rattle.listing.specs.Inner.Counting.{records_of, node_records}

module _ (l : Bytes) (acc : Accepted l) where
  abbrev last : ℕ
  last = (header l).nodes - 1

  pub last_below : last < (header l).nodes
  last_below = omega (arith, acc.some_node)

  is_statement : class l last ≡ 3
  is_statement =
      root_class l (header l).conditions last (acc.nodes_fit last last_below) (acc.nodes_classed last last_below) (omega (arith, acc.some_node))

  pub root_text : node_text l 0 last ≡ listedˢ 0 (routine l)
  unfolding node_text text_of routine
  root_text = ap (λ c. text_of c 0 (read l last)) is_statement

  pub root_records : node_records l last ≡ recordsˢ (routine l)
  unfolding node_records records_of routine
  root_records = ap (λ c. records_of c (read l last)) is_statement
