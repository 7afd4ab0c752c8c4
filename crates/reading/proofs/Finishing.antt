-- A node's own word: the names of its children, its variable and its value.
use mathlib.Core.Path.{◌≡◌, refl, sym, ◌∙◌, ap, ap₂, subst}
use Prim.Native.Nat.{ℕ, zero, suc, ◌-◌, ◌/◌, ◌%◌, ◌≤◌, ◌<◌}
use mathlib.Core.Bool.{Bool, true, false, cond, ◌&&◌, true≢false}
use mathlib.Core.List.{List}
use native.Mathlib.Omega.{arith}
use lib.Dec.{eqb}
use borrow.Author.Tests.{lt-ltb, le-ltb}
use Rattle.image.specs.Layout.{layout, variable_digit, names_node}
use Rattle.image.specs.Term.{node_word}
use Rattle.written.specs.Limits.{NODES, RECORDS}
use Rattle.reading.specs.declared.cursor.Cursor.{Cursor}
use Rattle.reading.specs.Inner.Parts.{Slot, empty, of_arithmetic, of_boolean, of_statement, of_condition, slot_of}
use Rattle.reading.specs.Inner.Node.{name_of, own_word, OwnFields, Finishing}

-- ---- names

module _ (c : Cursor) where
  pub name_node : (n : ℕ) (u : Bool) (r : ℕ) → u ≡ names_node n → u ≡ true → r ≡ c.node - 1 → r ≡ name_of (slot_of n) c
  unfolding slot_of names_node
  name_node zero u r e t h = absurd (true≢false (sym t ∙ e))
  name_node (suc zero) u r e t h = h
  name_node (suc (suc zero)) u r e t h = h
  name_node (suc (suc (suc zero))) u r e t h = h
  name_node (suc (suc (suc (suc n)))) u r e t h =
      absurd (true≢false (sym t ∙ e ∙ ap₂ ◌&&◌ (lt-ltb 0 (suc (suc (suc (suc n)))) (omega arith)) (le-ltb (suc (suc (suc (suc n)))) 4 (omega arith))))

  pub name_condition : (n r : ℕ) → n ≡ 4 → r ≡ c.condition - 1 → r ≡ name_of (slot_of n) c
  unfolding slot_of
  name_condition n r e h = h ∙ ap (λ n. name_of (slot_of n) c) (sym e)

  pub name_none : (n : ℕ) (u : Bool) → u ≡ names_node n → u ≡ false → (n ≡ 4 → ⊥) → 0 ≡ name_of (slot_of n) c
  unfolding slot_of names_node
  name_none zero u e f k = refl
  name_none (suc zero) u e f k = absurd (true≢false (sym e ∙ f))
  name_none (suc (suc zero)) u e f k = absurd (true≢false (sym e ∙ f))
  name_none (suc (suc (suc zero))) u e f k = absurd (true≢false (sym e ∙ f))
  name_none (suc (suc (suc (suc zero)))) u e f k = absurd (k refl)
  name_none (suc (suc (suc (suc (suc n))))) u e f k = refl

  pub name_small : (s : Slot) → c.node ≤ NODES → c.condition ≤ RECORDS → name_of s c < 4096
  name_small empty h k = omega arith
  name_small of_arithmetic h k = omega arith
  name_small of_boolean h k = omega arith
  name_small of_statement h k = omega arith
  name_small of_condition h k = omega arith

-- ---- fields

pub word_is : (kind value v n a b c r : ℕ) → v ≡ cond (eqb (variable_digit (layout kind)) 1) value 0 → n ≡ cond (eqb kind 0) value 0 → r ≡ node_word kind v n a b c → r ≡ own_word kind value a b c
unfolding own_word
word_is kind value v n a b c r e f h = h ∙ ap₂ (λ v n. node_word kind v n a b c) e f

-- ---- finishing

module _ (kind value : ℕ) (a b c : Cursor) (nodes : List ℕ) (F : Finishing kind value a b c nodes) (digits x y z : ℕ) (d : digits ≡ layout kind)
    (e : x ≡ name_of (slot_of (digits / 64 % 8)) a) (f : y ≡ name_of (slot_of (digits / 8 % 8)) b) (g : z ≡ name_of (slot_of (digits % 8)) c) where
  pub own_fields : OwnFields kind value x y z
  own_fields = record {
    known = F.known;
    value_small = F.value_small;
    variable_small = F.variable_small;
    a_small = subst (λ i. i < 4096) (sym e) (name_small a (slot_of (digits / 64 % 8)) F.a_few.0 F.a_few.1);
    b_small = subst (λ i. i < 4096) (sym f) (name_small b (slot_of (digits / 8 % 8)) F.b_few.0 F.b_few.1);
    c_small = subst (λ i. i < 4096) (sym g) (name_small c (slot_of (digits % 8)) (omega (arith, F.room)) F.c_few);
  }

-- ---- a variable
