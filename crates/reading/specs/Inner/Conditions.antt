-- What the reading of a condition asks for, and what it leaves: "one condition record for each written occurrence, .. operands first".
use Rattle.std.specs.Prelude.{◌≡◌, ℕ, ◌+◌, ◌≤◌, List, ◌++◌, length, take, Result, MatchResult}
use Rattle.imp.specs.Condition.{Condition}
use Rattle.image.specs.declared.refusals.Refusal.{Refusal}
use Rattle.image.specs.Bytes.{Bytes}
use Rattle.written.specs.Machine.{conditions, Stack, want}
use Rattle.written.specs.Limits.{RECORDS}
use Rattle.written.specs.Count.{sizeᶜ}
use Rattle.written.specs.Image.{wordsᶜ}
use Rattle.reading.specs.declared.cursor.Cursor.{Cursor}
use Rattle.reading.specs.Inner.Way.{Good, Way, Refuses}

-- a condition under F is to be read: there is a place for each record that has been opened
pub record ConditionReady (text : Bytes) (F : ℕ) (c : Cursor) (records : List ℕ) : Type 0 where
  pub good : Good text c
  pub options_few : F ≤ 6
  pub space : length records ≡ RECORDS
  pub written_few : c.condition ≤ c.records

-- the records of a condition, behind those that were written before it
pub record WroteCondition (k : Condition) (c c' : Cursor) (records records' : List ℕ) : Type 0 where
  pub nodes_kept : c'.nodes ≡ c.nodes
  pub node_kept : c'.node ≡ c.node
  pub records_opened : c'.records ≡ c.records + sizeᶜ k
  pub condition_is : c'.condition ≡ c.condition + sizeᶜ k
  pub records_are : (r : List ℕ) → take c.condition records ++ wordsᶜ k c.condition r ≡ take c'.condition records' ++ r

pub record ConditionRead (text : Bytes) (F : ℕ) (c c' : Cursor) (records records' : List ℕ) : Type 0 where
  pub condition : Condition
  pub way : (h : Condition → Stack) → Way text c c' (want F conditions h) (h condition)
  pub wrote : WroteCondition condition c c' records records'

pub record ReadsCondition (text : Bytes) (F : ℕ) (c : Cursor) (r : Result Cursor Refusal) (records records' : List ℕ) : Type 0 where
  pub read : MatchResult r (λ c'. ConditionRead text F c c' records records') (λ e. (h : Condition → Stack) → Refuses text c (want F conditions h) e)
  pub same_space : length records' ≡ length records
