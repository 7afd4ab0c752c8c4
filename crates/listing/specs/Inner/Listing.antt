-- What the listing of a node, of a condition and of a sign of either ask for.
use Rattle.std.specs.Prelude.{◌≡◌, ℕ, ◌+◌, ◌*◌, ◌/◌, ◌%◌, ◌≤◌, ◌<◌, Bool, true, cond, eqb, length}
use Rattle.imp.specs.Numbers.{signed32}
use Rattle.image.specs.declared.records.ConditionRecord.{ConditionRecord}
use Rattle.image.specs.declared.records.Node.{Node}
use Rattle.image.specs.Bytes.{Bytes}
use Rattle.image.specs.Records.{header, condition_record, node}
use Rattle.image.specs.Layout.{layout, a_digit, b_digit, c_digit, names_node, is_choice, condition_layout}
use Rattle.image.specs.Rows.{class}
use Rattle.image.specs.Accepted.{Accepted}
use Rattle.image.specs.Tree.{condition, read}
use Rattle.listing.specs.Inner.Spelling.{plainly, stands}
use Rattle.listing.specs.Inner.Texts.{node_text, all_short, parts_at, condition_text, condition_parts}

-- ---- nodes

-- a sign that is a part stands where its field holds one
unfoldable pub asks : ℕ → ℕ → Bool
asks kind sign =
    let digits : ℕ = layout kind in
    cond (eqb sign 65) (names_node (a_digit digits))
    (cond (eqb sign 66) (names_node (b_digit digits))
    (cond (eqb sign 67) (names_node (c_digit digits))
    (cond (eqb sign 88) (names_node (a_digit digits))
    (cond (eqb sign 89) (names_node (b_digit digits))
    (cond (eqb sign 75) (is_choice kind) true)))))

-- how far a sign reaches down: above the number of the node that it stands for
unfoldable pub reach : Node → ℕ → ℕ
reach ν sign =
    cond (eqb sign 65) (2 * ν.a + 3)
    (cond (eqb sign 66) (2 * ν.b + 3)
    (cond (eqb sign 67) (2 * ν.c + 3)
    (cond (eqb sign 88) (2 * ν.a + 3)
    (cond (eqb sign 89) (2 * ν.b + 3) 0))))

pub record Listing (l : Bytes) (n level at space : ℕ) : Type 0 where
  pub accepted : Accepted l
  pub node_below : n < (header l).nodes
  pub level_few : level + n ≤ 1024
  pub fits : at + length (node_text l level n) ≤ space

pub record Signing (l : Bytes) (ν : Node) (flat : Bool) (level sign at space : ℕ) : Type 0 where
  pub accepted : Accepted l
  pub n : ℕ
  pub is_node : ν ≡ node l n
  pub node_below : n < (header l).nodes
  pub flat_is : flat ≡ all_short (read l) ν
  pub level_few : level + n ≤ 1024
  pub asked : asks ν.kind sign ≡ true
  pub fits : at + length (stands (parts_at l level ν) sign) ≤ space

-- a node of a class, of which it is asked whether it is short
pub record Asking (l : Bytes) (n cls : ℕ) : Type 0 where
  pub accepted : Accepted l
  pub node_below : n < (header l).nodes
  pub is_class : class l n ≡ cls

pub record AskingField (l : Bytes) (slot n : ℕ) : Type 0 where
  pub accepted : Accepted l
  pub node_below : slot ≡ 3 → n < (header l).nodes
  pub is_class : slot ≡ 3 → class l n ≡ 3

pub record AskingAll (l : Bytes) (ν : Node) : Type 0 where
  pub accepted : Accepted l
  pub n : ℕ
  pub is_node : ν ≡ node l n
  pub node_below : n < (header l).nodes

-- a sign that is no part
pub record Plain (variable value : ℕ) (flat : Bool) (level sign at space : ℕ) : Type 0 where
  pub level_few : level ≤ 1024
  pub fits : at + length (plainly variable (signed32 value) flat level sign) ≤ space

-- ---- conditions

unfoldable pub condition_asks : ℕ → ℕ → Bool
condition_asks kind sign =
    let digits : ℕ = condition_layout kind in
    cond (eqb sign 65) (eqb (digits / 8 % 8) 1) (cond (eqb sign 66) (eqb (digits % 8) 1) true)

unfoldable pub condition_reach : ConditionRecord → ℕ → ℕ
condition_reach r sign = cond (eqb sign 65) (2 * r.left + 3) (cond (eqb sign 66) (2 * r.right + 3) 0)

pub record ConditionListing (l : Bytes) (k at space : ℕ) : Type 0 where
  pub accepted : Accepted l
  pub condition_below : k < (header l).conditions
  pub fits : at + length (condition_text l k) ≤ space

pub record ConditionSigning (l : Bytes) (r : ConditionRecord) (sign at space : ℕ) : Type 0 where
  pub accepted : Accepted l
  pub k : ℕ
  pub is_record : r ≡ condition_record l k
  pub condition_below : k < (header l).conditions
  pub asked : condition_asks r.kind sign ≡ true
  pub fits : at + length (stands (condition_parts (condition l) r) sign) ≤ space
