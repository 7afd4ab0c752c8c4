-- How far a reading has come, by the machine of the written form: the answer that a cursor's place leads to, and what leads from cursor to cursor.
use Rattle.std.specs.Prelude.{◌≡◌, ℕ, ◌+◌, ◌≤◌, List, [], ◌∷◌, length, drop}
use Rattle.image.specs.declared.refusals.Refusal.{Refusal}
use Rattle.image.specs.declared.refusals.Refusal.TheVariants.{TextWrong, TooMany}
use Rattle.image.specs.Refusals.{place_of}
use Rattle.image.specs.Bytes.{Bytes}
use Rattle.written.specs.Token.{Opens, nothing, node, record_of, Spot}
use Rattle.written.specs.Machine.{Stack, Log, plain}
use Rattle.written.specs.Limits.{NODES, RECORDS}
use Rattle.written.specs.Answer.{Answer, refused_17, refused_18, from}
use Rattle.reading.specs.declared.cursor.Cursor.{Cursor}

-- how many nodes, and how many condition records, the tokens of a log have opened
abbrev pub node_of : Opens → ℕ
node_of nothing = 0
node_of node = 1
node_of record_of = 0

abbrev pub record_in : Opens → ℕ
record_in nothing = 0
record_in node = 0
record_in record_of = 1

unfoldable pub nodes_in : List Spot → ℕ
nodes_in [] = 0
nodes_in (m ∷ ms) = node_of m.does + nodes_in ms

unfoldable pub records_in : List Spot → ℕ
records_in [] = 0
records_in (m ∷ ms) = record_in m.does + records_in ms

-- the machine's log at a cursor
pub record Logged (c : Cursor) (w : Log) : Type 0 where
  pub at_is : w.at ≡ c.at
  pub nodes_are : nodes_in w.spots ≡ c.nodes
  pub records_are : records_in w.spots ≡ c.records

-- the answer to the text from a cursor on, with a stack of what is still to come
abbrev pub here : Bytes → Cursor → Log → Stack → Answer
here text c w s = from text (drop c.at text) (plain w [] c.tight s) c.at

-- an answer is what a refusal says: the text is not of the grammar, or a token is one too many
abbrev pub Says : Refusal → Answer → Type 0
Says (TextWrong p) a = a ≡ refused_17 p
Says (TooMany p) a = a ≡ refused_18 p
Says _ a = ⊥

-- a cursor in a text, with the limits kept
pub record Good (text : Bytes) (c : Cursor) : Type 0 where
  pub inside : c.at ≤ length text
  pub few_nodes : c.nodes ≤ NODES
  pub few_records : c.records ≤ RECORDS

-- from c, where A is still to come, to c', where B is
pub record Way (text : Bytes) (c c' : Cursor) (A B : Stack) : Type 0 where
  pub forth : c.at ≤ c'.at
  pub good : Good text c'
  pub goes : (w : Log) → Logged c w → (w' : Log) × Logged c' w' × (here text c w A ≡ here text c' w' B)

-- from c, where A is still to come, the text is refused: at a place that is not before c and lies in the text
pub record Refuses (text : Bytes) (c : Cursor) (A : Stack) (e : Refusal) : Type 0 where
  pub forth : c.at ≤ place_of e
  pub inside : place_of e ≤ length text
  pub says : (w : Log) → Logged c w → Says e (here text c w A)

-- what has been opened and written
pub record Kept (c c' : Cursor) : Type 0 where
  pub node_kept : c'.node ≡ c.node
  pub condition_kept : c'.condition ≡ c.condition

-- a token read: it opens so many nodes and records
pub record Opened (c c' : Cursor) (o : Opens) : Type 0 where
  pub kept : Kept c c'
  pub nodes_opened : c'.nodes ≡ c.nodes + node_of o
  pub records_opened : c'.records ≡ c.records + record_in o
