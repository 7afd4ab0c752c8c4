-- What the writing of a node's configured term asks for, and what it leaves.
use Rattle.std.specs.Prelude.{◌≡◌, true, cond, ℕ, ◌+◌, ◌-◌, ◌*◌, ◌≤◌, ◌<◌, eqb}
use Rattle.std.proofs.lemmas.List.Edits.{sets}
use Rattle.image.specs.declared.records.Node.{Node}
use Rattle.image.specs.Bytes.{Bytes}
use Rattle.image.specs.Records.{header}
use Rattle.image.specs.Layout.{layout, a_digit, b_digit, c_digit, names_node}
use Rattle.image.specs.Term.{Branch, size, branch_size, node_word, words, branch_words, all_bytes}
use Rattle.configure.specs.Inner.Term.{hang, term_at}

-- node n is to be written as nodes `at` and on, and there is space for it
pub record Writing (l : Bytes) (s n at space : ℕ) : Type 0 where
  pub node_below : n < (header l).nodes
  pub few : at + size (term_at l s n) ≤ 1024
  pub fits : 8 + 8 * (at + size (term_at l s n)) ≤ space

-- the next node's number, and the bytes
pub record Wrote (l : Bytes) (s n at : ℕ) (out out' : Bytes) (next : ℕ) : Type 0 where
  pub next_is : next ≡ at + size (term_at l s n)
  pub out_is : out' ≡ sets out (8 + 8 * at) (all_bytes (words (term_at l s n) at))

-- ---- a field of a node

-- what hangs on it: the configured term of the child that it names, or nothing
abbrev pub hung : Bytes → ℕ → ℕ → ℕ → Branch
hung l s slot value = hang (names_node slot) (term_at l s) value

pub record SlotWriting (l : Bytes) (s slot value at space : ℕ) : Type 0 where
  pub child_below : names_node slot ≡ true → value < (header l).nodes
  pub few : at + branch_size (hung l s slot value) ≤ 1024
  pub fits : 8 + 8 * (at + branch_size (hung l s slot value)) ≤ space

pub record SlotWrote (b : Branch) (at : ℕ) (out out' : Bytes) (next : ℕ) : Type 0 where
  pub next_is : next ≡ at + branch_size b
  pub out_is : out' ≡ sets out (8 + 8 * at) (all_bytes (branch_words b at))

-- ---- a node's own word

-- the name of the child that was written last before node `next`; 0 in a field that names none
unfoldable pub named : ℕ → ℕ → ℕ
named slot next = cond (names_node slot) (next - 1) 0

-- the word of a node whose children are written: after each of them the next node is `after-a`, `after-b` or `after-c`
unfoldable pub own_word : Node → ℕ → ℕ → ℕ → ℕ
own_word ν after-a after-b after-c =
    let digits : ℕ = layout ν.kind in
    node_word ν.kind ν.variable (cond (eqb ν.kind 0) ν.value 0)
    (named (a_digit digits) after-a) (named (b_digit digits) after-b) (named (c_digit digits) after-c)

pub record Ended (ν : Node) (after-a after-b after-c : ℕ) : Type 0 where
  pub known : ν.kind < 24
  pub variable_small : ν.variable < 64
  pub a_written : names_node (a_digit (layout ν.kind)) ≡ true → 0 < after-a
  pub b_written : names_node (b_digit (layout ν.kind)) ≡ true → 0 < after-b
  pub c_written : names_node (c_digit (layout ν.kind)) ≡ true → 0 < after-c
  pub a_small : after-a ≤ 1024
  pub b_small : after-b ≤ 1024
  pub c_small : after-c ≤ 1024
