-- How many condition records a listing has, counted up to one over the limit: conditions are shared in an image, so written out they can be any number.
use Rattle.std.specs.Prelude.{◌≡◌, true, cond, List, ℕ, min, ◌≤◌, ◌<◌, eqb, length, get_or}
use Rattle.imp.specs.Condition.{Condition}
use Rattle.image.specs.Bytes.{Bytes}
use Rattle.image.specs.Records.{header}
use Rattle.image.specs.Layout.{names_node}
use Rattle.image.specs.Rows.{class}
use Rattle.image.specs.Accepted.{Accepted}
use Rattle.image.specs.Tree.{condition, Read, read}
use Rattle.written.specs.Count.{sizeᶜ, recordsᵃ, recordsᵇ, recordsˢ}

-- a number, or 257 if it is more
abbrev pub capped : ℕ → ℕ
capped n = min n 257

-- the first n numbers of a table are those of f
pub record Begins (f : ℕ → ℕ) (n : ℕ) (table : List ℕ) : Type 0 where
  pub right : (k : ℕ) → k < n → get_or table k 0 ≡ f k
  pub kept : n ≤ length table

-- ---- conditions

-- the sizes of the first n conditions
abbrev pub SizesOf : Bytes → ℕ → List ℕ → Type 0
SizesOf l = Begins (λ k. capped (sizeᶜ (condition l k)))

pub record Sizing (l : Bytes) (k : ℕ) (sizes : List ℕ) : Type 0 where
  pub accepted : Accepted l
  pub condition_below : k < (header l).conditions
  pub before : SizesOf l k sizes

-- ---- nodes

-- of what is read of a node of a class
unfoldable pub records_of : ℕ → Read → ℕ
records_of class r = cond (eqb class 1) (recordsᵃ r.arithmetic) (cond (eqb class 2) (recordsᵇ r.boolean) (recordsˢ r.statement))

unfoldable pub node_records : Bytes → ℕ → ℕ
node_records l n = records_of (class l n) (read l n)

-- of what a field holds: a node, where `at` gives those of the field's class, a condition, or nothing
unfoldable pub field_records : (ℕ → ℕ → ℕ) → (ℕ → Condition) → ℕ → ℕ → ℕ
field_records at of slot value = cond (names_node slot) (at slot value) (cond (eqb slot 4) (sizeᶜ (of value)) 0)

-- those of the first n nodes
abbrev pub RecordsOf : Bytes → ℕ → List ℕ → Type 0
RecordsOf l = Begins (λ k. capped (node_records l k))

pub record Counting (l : Bytes) (n : ℕ) (sizes records : List ℕ) : Type 0 where
  pub accepted : Accepted l
  pub node_below : n < (header l).nodes
  pub sizes_are : SizesOf l (header l).conditions sizes
  pub before : RecordsOf l n records

-- a field's number is in the list that it is looked up in
pub record Field (slot value : ℕ) (sizes records : List ℕ) : Type 0 where
  pub node_there : names_node slot ≡ true → value < length records
  pub condition_there : slot ≡ 4 → value < length sizes
