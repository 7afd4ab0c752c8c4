-- The text of a node and of a condition of an image, and of what stands in their fields.
use Rattle.std.specs.Prelude.{ℕ, suc, ◌/◌, ◌%◌, Bool, true, cond, ◌&&◌, [], eqb, pos}
use Rattle.imp.specs.Numbers.{signed32}
use Rattle.imp.specs.Condition.{Condition}
use Rattle.image.specs.declared.records.ConditionRecord.{ConditionRecord}
use Rattle.image.specs.declared.records.Node.{Node}
use Rattle.image.specs.Bytes.{Bytes}
use Rattle.image.specs.Layout.{layout, a_digit, b_digit, c_digit, names_node, condition_layout}
use Rattle.image.specs.Rows.{class}
use Rattle.image.specs.Tree.{condition, Read, read}
use Rattle.written.specs.Word.{bytes}
use Rattle.written.specs.Lister.{short, listedᶜ, listedᵃ, listedᵇ, listedˢ}
use Rattle.listing.specs.Inner.Spelling.{Parts}

-- ---- nodes

-- what is read of a node of a class, at a level
unfoldable pub text_of : ℕ → ℕ → Read → Bytes
text_of class level r = cond (eqb class 1) (listedᵃ r.arithmetic) (cond (eqb class 2) (listedᵇ r.boolean) (listedˢ level r.statement))

unfoldable pub node_text : Bytes → ℕ → ℕ → Bytes
node_text l level n = text_of (class l n) level (read l n)

-- the parts so far are short, and so is the statement in a field; a field that holds no statement does not matter
unfoldable pub still_short : (ℕ → Read) → Bool → ℕ → ℕ → Bool
still_short at so_far slot value = cond (eqb slot 3) (so_far && short (at value).statement) so_far

unfoldable pub all_short : (ℕ → Read) → Node → Bool
all_short at ν =
    let digits : ℕ = layout ν.kind in
    still_short at (still_short at (still_short at true (a_digit digits) ν.a) (b_digit digits) ν.b) (c_digit digits) ν.c

-- the text in a field, where `text` gives that of a node of the field's class; none, where it names no node
unfoldable pub field_text : (ℕ → ℕ → Bytes) → ℕ → ℕ → Bytes
field_text text slot value = cond (names_node slot) (text slot value) []

-- the parts of a node at a level, where `text` gives those of its fields, `of` the conditions and `flat` says whether the parts are short
unfoldable pub node_parts : (ℕ → ℕ → ℕ → Bytes) → (ℕ → Condition) → Bool → ℕ → Node → Parts
node_parts text of flat level ν =
    let digits : ℕ = layout ν.kind in
    record {
      a = field_text (text (suc level)) (a_digit digits) ν.a;
      b = field_text (text (suc level)) (b_digit digits) ν.b;
      c = field_text (text (suc level)) (c_digit digits) ν.c;
      x = field_text (text level) (a_digit digits) ν.a;
      y = field_text (text level) (b_digit digits) ν.b;
      k = listedᶜ (of ν.a);
      variable = ν.variable;
      value = signed32 ν.value;
      flat = flat;
      level = level;
    }

-- those of a node of an image
unfoldable pub parts_at : Bytes → ℕ → Node → Parts
parts_at l level ν = node_parts (λ level slot. node_text l level) (condition l) (all_short (read l) ν) level ν

-- ---- conditions

unfoldable pub condition_text : Bytes → ℕ → Bytes
condition_text l k = listedᶜ (condition l k)

-- what a used name stands for
unfoldable pub named : ℕ → Bytes → Bytes
named digit text = cond (eqb digit 1) text []

-- C, X, Y and K are no parts of a condition, and stand for themselves
unfoldable pub condition_parts : (ℕ → Condition) → ConditionRecord → Parts
condition_parts at r =
    let digits : ℕ = condition_layout r.kind in
    record {
      a = named (digits / 8 % 8) (listedᶜ (at r.left));
      b = named (digits % 8) (listedᶜ (at r.right));
      c = bytes "C";
      x = bytes "X";
      y = bytes "Y";
      k = bytes "K";
      variable = r.option;
      value = pos 0;
      flat = true;
      level = 0;
    }
