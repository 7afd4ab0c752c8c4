-- The whole text: `options` and F, the statement, and nothing behind it.
use Rattle.std.specs.Prelude.{◌≡◌, ℕ, ◌≤◌, List, [], length, take, Result, Ok, Err, MatchResult}
use Rattle.imp.specs.Condition.{Condition}
use Rattle.imp.specs.Routine.{Statement}
use Rattle.image.specs.declared.refusals.Refusal.{Refusal}
use Rattle.image.specs.Bytes.{Bytes}
use Rattle.image.specs.Listing.{sizeˢ}
use Rattle.written.specs.Token.{nothing, Spot}
use Rattle.written.specs.Machine.{counts, Reading, Stack, done, want, Log}
use Rattle.written.specs.Limits.{NODES, RECORDS}
use Rattle.written.specs.Answer.{gives, answer}
use Rattle.written.specs.Count.{recordsˢ}
use Rattle.written.specs.Image.{choicesˢ, nodesˢ}
use Rattle.reading.specs.declared.cursor.Cursor.{Cursor}
use Rattle.reading.specs.declared.number.Number.{Number}
use Rattle.reading.specs.Inner.Way.{Logged, here, Says, Way, Refuses, Opened}

-- F is read
pub record Counted (text : Bytes) (c : Cursor) (n : Number) : Type 0 where
  pub way : (h : ℕ → Stack) → Way text c n.cursor (want 0 counts h) (h n.value)
  pub opened : Opened c n.cursor nothing
  pub small : n.value ≤ 6

abbrev pub CountWay : Bytes → Cursor → Result Number Refusal → Type 0
CountWay text c (Ok n) = Counted text c n
CountWay text c (Err e) = (h : ℕ → Stack) → Refuses text c (want 0 counts h) e

-- nothing is to come: the text ends, but for spaces
abbrev pub EndWay : Bytes → Cursor → Result (Unit {0}) Refusal → Type 0
EndWay text c (Ok u) = (w : Log) (R : Reading) → Logged c w → (ms : List Spot) × (here text c w (done R) ≡ gives (record { reading = R; placed = ms }))
EndWay text c (Err e) = (R : Reading) → Refuses text c (done R) e

-- the routine that the text is, in the tables
pub record WholeRead (text : Bytes) (nodes records : List ℕ) (n : Number) : Type 0 where
  pub tree : Statement Condition
  pub read_is : (ms : List Spot) × (answer text ≡ gives (record { reading = record { options = n.value; tree = tree }; placed = ms }))
  pub options_few : n.value ≤ 6
  pub nodes_few : (n.cursor.node ≡ sizeˢ tree) × (n.cursor.node ≤ NODES)
  pub records_few : (n.cursor.condition ≡ recordsˢ tree) × (n.cursor.condition ≤ RECORDS)
  pub nodes_are : take n.cursor.node nodes ≡ nodesˢ tree 0 0 []
  pub records_are : take n.cursor.condition records ≡ choicesˢ tree 0 []

-- or the machine's refusal
pub record ReadsWhole (text : Bytes) (nodes records : List ℕ) (r : Result Number Refusal) : Type 0 where
  pub read : MatchResult r (WholeRead text nodes records) (λ e. Says e (answer text))
  pub node_space : length nodes ≡ NODES
  pub record_space : length records ≡ RECORDS
