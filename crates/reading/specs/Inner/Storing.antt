-- One condition record more.
use Rattle.std.specs.Prelude.{◌≡◌, ℕ, suc, ◌<◌, List, length, set}
use Rattle.image.specs.Term.{condition_word}
use Rattle.image.specs.Inner.Words.{ConditionFields}
use Rattle.written.specs.Limits.{RECORDS}
use Rattle.reading.specs.declared.cursor.Cursor.{Cursor}

-- the next record has been written
abbrev pub written_on : Cursor → Cursor
written_on c =
    record { at = c.at; tight = c.tight; nodes = c.nodes; records = c.records; node = c.node; condition = suc c.condition }

pub record Storable (c : Cursor) (kind option left right : ℕ) (records : List ℕ) : Type 0 where
  pub space : length records ≡ RECORDS
  pub room : c.condition < RECORDS
  pub fields : ConditionFields kind option left right

pub record Stores (c : Cursor) (kind option left right : ℕ) (records records' : List ℕ) (r : Cursor) : Type 0 where
  pub goes_on : r ≡ written_on c
  pub writes : records' ≡ set records c.condition (condition_word kind option left right)
