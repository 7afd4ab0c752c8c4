-- The records of an image: header, conditions, nodes (document 01, "The image").
use Rattle.std.specs.Prelude.{ℕ, ◌+◌, ◌*◌}
use Rattle.image.specs.declared.records.Header.{Header}
use Rattle.image.specs.declared.records.ConditionRecord.{ConditionRecord}
use Rattle.image.specs.declared.records.Node.{Node}
use Rattle.image.specs.Bytes.{Bytes, number_at, field}

-- "Header, 64 bits: edition 8 (always 1), options F 4, condition count C 12, node count P 12, zero 28."
abbrev pub header_fields : ℕ → Header
header_fields w = record { edition = field w 56 8; options = field w 52 4; conditions = field w 40 12; nodes = field w 28 12; zero = field w 0 28 }

unfoldable pub header : Bytes → Header
header l = header_fields (number_at l 0 8)

-- "32 bits each: kind 4, option 4, left 12, right 12."
abbrev pub condition_fields : ℕ → ConditionRecord
condition_fields w = record { kind = field w 28 4; option = field w 24 4; left = field w 12 12; right = field w 0 12 }

-- "64 bits each: kind 6, variable 6, a 12, b 12, c 12, zero 16. The number node instead: kind 6, zero 26, value 32 in two's complement."
abbrev pub node_fields : ℕ → Node
node_fields w = record {
  kind = field w 58 6;
  variable = field w 52 6;
  a = field w 40 12;
  b = field w 28 12;
  c = field w 16 12;
  zero = field w 0 16;
  high = field w 32 26;
  value = field w 0 32;
}

-- "C condition records" after the header, "P nodes" after them
unfoldable pub nodes_from : ℕ → ℕ
nodes_from conditions = 8 + 4 * conditions

unfoldable pub condition_record : Bytes → ℕ → ConditionRecord
condition_record l k = condition_fields (number_at l (8 + 4 * k) 4)

unfoldable pub node : Bytes → ℕ → Node
node l n = node_fields (number_at l (nodes_from (header l).conditions + 8 * n) 8)
