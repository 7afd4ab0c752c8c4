-- The parts of a node as records: what each adds to the nodes and the conditions, and the node's own word behind them.
use Rattle.std.specs.Prelude.{◌≡◌, ℕ, ◌+◌, ◌-◌, ◌^◌, ◌≤◌, ◌<◌, cond, List, ◌++◌, eqb, length, take, set, Result, Ok, Err, MatchResult}
use Rattle.image.specs.declared.refusals.Refusal.{Refusal}
use Rattle.image.specs.Bytes.{Bytes}
use Rattle.image.specs.Layout.{layout, class_digit, variable_digit}
use Rattle.image.specs.Listing.{sizeᵃ, sizeᵇ, sizeˢ}
use Rattle.image.specs.Term.{node_word}
use Rattle.std.proofs.Math.Option.{Option}
use Rattle.written.specs.Token.{Lexeme, nothing}
use Rattle.written.specs.Machine.{Stack, want, variables}
use Rattle.written.specs.Limits.{NODES, RECORDS}
use Rattle.written.specs.Count.{sizeᶜ, recordsᵃ, recordsᵇ, recordsˢ}
use Rattle.written.specs.Image.{wordsᶜ, choicesᵃ, choicesᵇ, choicesˢ, nodesᵃ, nodesᵇ, nodesˢ}
use Rattle.reading.specs.declared.cursor.Cursor.{Cursor}
use Rattle.reading.specs.declared.number.Number.{Number}
use Rattle.reading.specs.Inner.Way.{Good, Way, Refuses, Opened}
use Rattle.reading.specs.Inner.Parts.{Part, Slot, empty, of_arithmetic, of_boolean, of_statement, of_condition, a_slot, b_slot, c_slot, own_slot, wants, behind_a, follow}

-- ---- what a part adds

abbrev pub size_of : Slot → Part → ℕ
size_of empty p = 0
size_of of_arithmetic p = sizeᵃ p.arithmetic
size_of of_boolean p = sizeᵇ p.boolean
size_of of_statement p = sizeˢ p.statement
size_of of_condition p = 0

abbrev pub records_of : Slot → Part → ℕ
records_of empty p = 0
records_of of_arithmetic p = recordsᵃ p.arithmetic
records_of of_boolean p = recordsᵇ p.boolean
records_of of_statement p = recordsˢ p.statement
records_of of_condition p = sizeᶜ p.condition

abbrev pub nodes_of : Slot → Part → ℕ → ℕ → List ℕ → List ℕ
nodes_of empty p n k r = r
nodes_of of_arithmetic p n k r = nodesᵃ p.arithmetic n k r
nodes_of of_boolean p n k r = nodesᵇ p.boolean n k r
nodes_of of_statement p n k r = nodesˢ p.statement n k r
nodes_of of_condition p n k r = r

abbrev pub choices_of : Slot → Part → ℕ → List ℕ → List ℕ
choices_of empty p k r = r
choices_of of_arithmetic p k r = choicesᵃ p.arithmetic k r
choices_of of_boolean p k r = choicesᵇ p.boolean k r
choices_of of_statement p k r = choicesˢ p.statement k r
choices_of of_condition p k r = wordsᶜ p.condition k r

-- ---- the node's own word

-- the name of a child, where the next node and the next condition behind it are n and k
abbrev pub name_at : Slot → ℕ → ℕ → ℕ
name_at empty n k = 0
name_at of_arithmetic n k = n - 1
name_at of_boolean n k = n - 1
name_at of_statement n k = n - 1
name_at of_condition n k = k - 1

abbrev pub name_of : Slot → Cursor → ℕ
name_of slot c = name_at slot c.node c.condition

unfoldable pub own_word : ℕ → ℕ → ℕ → ℕ → ℕ → ℕ
own_word kind value a b c = node_word kind (cond (eqb (variable_digit (layout kind)) 1) value 0) (cond (eqb kind 0) value 0) a b c

pub record OwnFields (kind value a b c : ℕ) : Type 0 where
  pub known : 0 < class_digit (layout kind)
  pub value_small : value < 2 ^ 32
  pub variable_small : variable_digit (layout kind) ≡ 1 → value ≤ 15
  pub a_small : a < 4096
  pub b_small : b < 4096
  pub c_small : c < 4096

-- ---- reading a part of a slot

pub record PartReady (text : Bytes) (F : ℕ) (c : Cursor) (nodes records : List ℕ) : Type 0 where
  pub good : Good text c
  pub options_few : F ≤ 6
  pub node_space : length nodes ≡ NODES
  pub record_space : length records ≡ RECORDS
  pub nodes_few : c.node ≤ c.nodes
  pub conditions_few : c.condition ≤ c.records

pub record Wrote (slot : Slot) (p : Part) (c c' : Cursor) (nodes nodes' records records' : List ℕ) : Type 0 where
  pub nodes_opened : c'.nodes ≡ c.nodes + size_of slot p
  pub records_opened : c'.records ≡ c.records + records_of slot p
  pub node_is : c'.node ≡ c.node + size_of slot p
  pub condition_is : c'.condition ≡ c.condition + records_of slot p
  pub nodes_are : (r : List ℕ) → take c.node nodes ++ nodes_of slot p c.node c.condition r ≡ take c'.node nodes' ++ r
  pub records_are : (r : List ℕ) → take c.condition records ++ choices_of slot p c.condition r ≡ take c'.condition records' ++ r

pub record PartRead (text : Bytes) (F : ℕ) (slot : Slot) (c c' : Cursor) (nodes nodes' records records' : List ℕ) : Type 0 where
  pub part : Part
  pub way : (g : Part → Stack) → Way text c c' (wants F slot g) (g part)
  pub wrote : Wrote slot part c c' nodes nodes' records records'

pub record ReadsPart (text : Bytes) (F : ℕ) (slot : Slot) (c : Cursor) (r : Result Cursor Refusal) (nodes nodes' records records' : List ℕ) : Type 0 where
  pub read : MatchResult r (λ c'. PartRead text F slot c c' nodes nodes' records records') (λ e. (g : Part → Stack) → Refuses text c (wants F slot g) e)
  pub same_nodes : length nodes' ≡ length nodes
  pub same_records : length records' ≡ length records

-- ---- reading what follows the token that opened a node

pub record FieldsReady (text : Bytes) (F kind value : ℕ) (c : Cursor) (nodes records : List ℕ) : Type 0 where
  pub ready : PartReady text F c nodes records
  pub node_open : c.node < c.nodes
  pub known : 0 < class_digit (layout kind)
  pub value_small : value < 2 ^ 32
  pub variable_small : variable_digit (layout kind) ≡ 1 → value ≤ 15

-- before the token that opened the node
abbrev pub before_lead : Cursor → Cursor
before_lead c = record { at = c.at; tight = c.tight; nodes = c.nodes - 1; records = c.records; node = c.node; condition = c.condition }

-- the node and its parts; the node itself has been opened before
pub record FieldsRead (text : Bytes) (F kind value : ℕ) (c c' : Cursor) (nodes nodes' records records' : List ℕ) : Type 0 where
  pub part : Part
  pub way : (g : Part → Stack) → Way text c c' (follow F kind value g) (g part)
  pub wrote : Wrote (own_slot kind) part (before_lead c) c' nodes nodes' records records'

pub record ReadsFields (text : Bytes) (F kind value : ℕ) (c : Cursor) (r : Result Cursor Refusal) (nodes nodes' records records' : List ℕ) : Type 0 where
  pub read : MatchResult r (λ c'. FieldsRead text F kind value c c' nodes nodes' records records') (λ e. (g : Part → Stack) → Refuses text c (follow F kind value g) e)
  pub same_nodes : length nodes' ≡ length nodes
  pub same_records : length records' ≡ length records

-- ---- the steps between

pub record VariableRead (text : Bytes) (c : Cursor) (n : Number) : Type 0 where
  pub way : (F : ℕ) (h : ℕ → Stack) → Way text c n.cursor (want F variables h) (h n.value)
  pub opened : Opened c n.cursor nothing
  pub small : n.value ≤ 15

abbrev pub VariableWay : Bytes → Cursor → Result Number Refusal → Type 0
VariableWay text c (Ok n) = VariableRead text c n
VariableWay text c (Err e) = (F : ℕ) (h : ℕ → Stack) → Refuses text c (want F variables h) e

pub record ReadBehind (text : Bytes) (c : Cursor) (kind : ℕ) (o : Option Lexeme) (value : ℕ) (n : Number) : Type 0 where
  pub way : (F : ℕ) (g : ℕ → Stack) → Way text c n.cursor (behind_a (eqb kind 22) F o value g) (g n.value)
  pub opened : Opened c n.cursor nothing
  pub same_value : (kind ≡ 22 → ⊥) → n.value ≡ value
  pub variable_small : kind ≡ 22 → n.value ≤ 15

abbrev pub BehindA : Bytes → Cursor → ℕ → Option Lexeme → ℕ → Result Number Refusal → Type 0
BehindA text c kind o value (Ok n) = ReadBehind text c kind o value n
BehindA text c kind o value (Err e) = (F : ℕ) (g : ℕ → Stack) → Refuses text c (behind_a (eqb kind 22) F o value g) e

pub record Finishes (kind value : ℕ) (a b c : Cursor) (nodes nodes' : List ℕ) (r : Cursor) : Type 0 where
  pub goes_on : r ≡ record { at = c.at; tight = c.tight; nodes = c.nodes; records = c.records; node = c.node + 1; condition = c.condition }
  pub writes : nodes' ≡ set nodes c.node (own_word kind value (name_of (a_slot kind) a) (name_of (b_slot kind) b) (name_of (c_slot kind) c))

-- what finishing asks for: the cursors stand behind the parts, and there is a place for the node
pub record Finishing (kind value : ℕ) (a b c : Cursor) (nodes : List ℕ) : Type 0 where
  pub known : 0 < class_digit (layout kind)
  pub value_small : value < 2 ^ 32
  pub variable_small : variable_digit (layout kind) ≡ 1 → value ≤ 15
  pub space : length nodes ≡ NODES
  pub room : c.node < NODES
  pub a_few : (a.node ≤ NODES) × (a.condition ≤ RECORDS)
  pub b_few : (b.node ≤ NODES) × (b.condition ≤ RECORDS)
  pub c_few : c.condition ≤ RECORDS
