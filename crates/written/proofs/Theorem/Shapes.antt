-- The shapes of a node that is no number: no child, one, two, three, and a choice, whose field a is a condition's number. What is closed for a kind is `refl`.
use Rattle.std.specs.Prelude.{◌≡◌, refl, ℕ, suc, ◌+◌, ◌-◌, ◌≤◌, ◌<◌, Bool, true, false, not, ◌&&◌, List, eqb, ltb}
use Rattle.std.proofs.Common.{subst, arith, ltb-true}
use Rattle.std.proofs.lemmas.Bool.{false≢true}
use Rattle.image.specs.Records.{node, node_fields}
use Rattle.image.specs.Layout.{layout, class_digit, variable_digit, a_digit, b_digit, c_digit, names_node, field_fits}
use Rattle.image.specs.Term.{node_word}
use Rattle.written.proofs.Theorem.Stretch.{Tree, Slot, Known, empty, numbered, child, joined}

-- a kind of the table, which is not that of a number
abbrev pub of_table : ℕ → Bool
of_table kind = ltb kind 64 && (not (eqb kind 0) && not (eqb (layout kind) 0))

and_true : (u v : Bool) → (u && v) ≡ true → (u ≡ true) × (v ≡ true)
and_true true v e = (refl, e)
and_true false v e = absurd (false≢true e)

not_true : (u : Bool) → not u ≡ true → u ≡ false
not_true true e = absurd (false≢true e)
not_true false e = refl

known_kind : (kind v : ℕ) → of_table kind ≡ true → field_fits (variable_digit (layout kind)) v 16 ≡ true → Known kind v
known_kind kind v e f =
    let p = and_true (ltb kind 64) (not (eqb kind 0) && not (eqb (layout kind) 0)) e in
    let q = and_true (not (eqb kind 0)) (not (eqb (layout kind) 0)) p.1 in
    record {
      small = ltb-true kind 64 p.0;
      no_number = not_true (eqb kind 0) q.0;
      known = not_true (eqb (layout kind) 0) q.1;
      variable_fits = f;
    }

module _ (l : List ℕ) (C kind v : ℕ) (t : of_table kind ≡ true) (f : field_fits (variable_digit (layout kind)) v 16 ≡ true) where
  -- the class of a node of the kind
  abbrev cl : ℕ
  cl = class_digit (layout kind)

  unused : {slot : ℕ} (at : ℕ) → 0 ≡ slot → Slot l C at 0 slot 0
  unused at e = subst (λ slot. Slot l C at 0 slot 0) e (empty l C at)

  pub no_child : (at : ℕ) → 0 ≡ a_digit (layout kind) → 0 ≡ b_digit (layout kind) → 0 ≡ c_digit (layout kind) → at + 1 ≤ 4096
      → node l at ≡ node_fields (node_word kind v 0 0 0 0) → Tree l C at 1 cl
  no_child at a b c m w =
      joined l C kind v at 1 (known_kind kind v t f) (unused at a) (unused at b) (unused at c) (omega arith) (omega arith) (omega arith) (omega arith) m w

  pub one_child : {at x : ℕ} → names_node (a_digit (layout kind)) ≡ true → 0 ≡ b_digit (layout kind) → 0 ≡ c_digit (layout kind)
      → Tree l C at x (a_digit (layout kind)) → at + suc x ≤ 4096 → node l (at + x) ≡ node_fields (node_word kind v 0 (at + x - 1) 0 0) → Tree l C at (suc x) cl
  one_child {at} {x} a b c p m w =
      joined l C kind v (at + x) (suc x) (known_kind kind v t f) (child l C a p) (unused (at + x) b) (unused (at + x) c)
      (omega arith) (omega arith) (omega arith) (omega arith) m w

  pub two_children : {at x y : ℕ} → names_node (a_digit (layout kind)) ≡ true → names_node (b_digit (layout kind)) ≡ true → 0 ≡ c_digit (layout kind)
      → Tree l C at x (a_digit (layout kind)) → Tree l C (at + x) y (b_digit (layout kind)) → at + suc (x + y) ≤ 4096
      → node l (at + x + y) ≡ node_fields (node_word kind v 0 (at + x - 1) (at + x + y - 1) 0) → Tree l C at (suc (x + y)) cl
  two_children {at} {x} {y} a b c p q m w =
      joined l C kind v (at + x + y) (suc (x + y)) (known_kind kind v t f) (child l C a p) (child l C b q) (unused (at + x + y) c)
      (omega arith) (omega arith) (omega arith) (omega arith) m w

  pub three_children : {at x y z : ℕ} → names_node (a_digit (layout kind)) ≡ true → names_node (b_digit (layout kind)) ≡ true
      → names_node (c_digit (layout kind)) ≡ true → Tree l C at x (a_digit (layout kind)) → Tree l C (at + x) y (b_digit (layout kind))
      → Tree l C (at + x + y) z (c_digit (layout kind)) → at + suc (x + y + z) ≤ 4096
      → node l (at + x + y + z) ≡ node_fields (node_word kind v 0 (at + x - 1) (at + x + y - 1) (at + x + y + z - 1)) → Tree l C at (suc (x + y + z)) cl
  three_children {at} {x} {y} {z} a b c p q r m w =
      joined l C kind v (at + x + y + z) (suc (x + y + z)) (known_kind kind v t f) (child l C a p) (child l C b q) (child l C c r)
      (omega arith) (omega arith) (omega arith) (omega arith) m w

  pub chosen : {at x y : ℕ} (c : ℕ) → 4 ≡ a_digit (layout kind) → names_node (b_digit (layout kind)) ≡ true → names_node (c_digit (layout kind)) ≡ true → c < C
      → C ≤ 4096 → Tree l C at x (b_digit (layout kind)) → Tree l C (at + x) y (c_digit (layout kind)) → at + suc (x + y) ≤ 4096
      → node l (at + x + y) ≡ node_fields (node_word kind v 0 c (at + x - 1) (at + x + y - 1)) → Tree l C at (suc (x + y)) cl
  chosen {at} {x} {y} c a b d h few p q m w =
      joined l C kind v (at + x + y) (suc (x + y)) (known_kind kind v t f) (subst (λ slot. Slot l C at 0 slot c) a (numbered l C at c h few)) (child l C b p) (child l C d q)
      (omega arith) (omega arith) (omega arith) (omega arith) m w
