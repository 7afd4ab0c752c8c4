-- The text of a node and of a condition of an accepted image is spelled by its signs, from the texts of what it names.
use Rattle.std.specs.Prelude.{◌≡◌, refl, Bool, false, ◌&&◌, eqb}
use Rattle.std.proofs.Common.{sym, ◌∙◌, arith, eqb-true}
use Rattle.std.proofs.Math.Path.{ap, ap₂}
use Prim.Native.Nat.{ℕ, suc, ◌/◌, ◌%◌, ◌<◌}
use Rattle.std.proofs.Math.Bool.{true, cond}
use Rattle.std.proofs.lemmas.Bool.{false≢true}
use mathlib.Core.List.{[]}
use Rattle.std.proofs.Math.IntN.{pos}
use Rattle.imp.specs.Numbers.{signed32}
use Rattle.image.specs.declared.records.ConditionRecord.{ConditionRecord}
use Rattle.image.specs.declared.records.Node.{Node}
use Rattle.image.specs.Bytes.{Bytes}
use Rattle.image.specs.Records.{header, condition_record, node}
use Rattle.image.specs.Layout.{kinds, layout, a_digit, b_digit, c_digit, names_node, condition_layout}
use Rattle.image.specs.Rows.{class, node_fits}
use Rattle.image.specs.Accepted.{Accepted}
use Rattle.image.specs.Tree.{condition_below, condition, Read, read_below, read}
use Rattle.image.proofs.Theorem.Lower.{fitted}
use Rattle.image.proofs.Theorem.Held.{Child, child_a, child_b, child_c}
use Rattle.image.proofs.Theorem.ConditionHeld.{kind_below, left_below, right_below}
use Rattle.image.proofs.Theorem.Reading.{condition_same, read_same}
use Rattle.image.proofs.Theorem.Listed.{by_test}
use Rattle.written.specs.Word.{bytes}
use Rattle.written.specs.Lister.{short, listedᶜ}
use Rattle.listing.specs.Inner.Spelling.{spelling, condition_spelling, spell}
use Rattle.listing.specs.Inner.Texts.{text_of, node_text, still_short, all_short, field_text, node_parts, parts_at, condition_text, named, condition_parts}
use Rattle.listing.proofs.Theorem.Spelled.{spelled, condition_spelled}

-- "All other kinds are refused"
pub known : (C n : ℕ) (ν : Node) → node_fits C n ν ≡ true → layout ν.kind ≡ 0 → ⊥
unfolding layout kinds
known C n ν fits z = go (eqb ν.kind 0) refl
  where
    go : (u : Bool) → eqb ν.kind 0 ≡ u → ⊥
    go true e = let k : layout 0 ≡ 0 = ap layout (sym (eqb-true ν.kind 0 e)) ∙ z in omega (arith, k)
    go false e = false≢true (rw z at (fitted C n ν fits e).known)

pub kind_known : {l : Bytes} {n : ℕ} {ν : Node} → Accepted l → n < (header l).nodes → ν ≡ node l n → layout ν.kind ≡ 0 → ⊥
kind_known {l} {n} acc h is = rw is (known (header l).conditions n (node l n) (acc.nodes_fit n h))

-- ---- nodes

module _ (l : Bytes) (n : ℕ) where
  -- the text in a field, from the nodes below
  field_same : (level slot value : ℕ) → (names_node slot ≡ true → Child l n slot value)
      → field_text (λ slot x. text_of slot level (read_below l n x)) slot value ≡ field_text (λ slot. node_text l level) slot value
  unfolding field_text node_text
  field_same level slot value child =
      by_test (names_node slot) (λ u. cond u (text_of slot level (read_below l n value)) [] ≡ cond u (text_of (class l value) level (read l value)) [])
      (λ e. ap₂ (λ k r. text_of k level r) (sym (child e).is_class) (read_same l n value (child e).is_lower)) (λ e. refl)

  short_same : (u : Bool) (slot value : ℕ) → (names_node slot ≡ true → Child l n slot value)
      → still_short (read_below l n) u slot value ≡ still_short (read l) u slot value
  unfolding still_short names_node
  short_same u slot value child =
      by_test (eqb slot 3) (λ v. cond v (u && short (read_below l n value).statement) u ≡ cond v (u && short (read l value).statement) u)
      (λ e. ap (λ (r : Read). u && short r.statement) (read_same l n value (child (rw (eqb-true slot 3 e) refl)).is_lower)) (λ e. refl)

module _ (l : Bytes) (acc : Accepted l) (n : ℕ) (h : n < (header l).nodes) where
  abbrev ν : Node
  ν = node l n

  abbrev digits : ℕ
  digits = layout ν.kind

  pub in_a : names_node (a_digit digits) ≡ true → Child l n (a_digit digits) ν.a
  in_a = child_a l (header l).conditions n (acc.nodes_fit n h) (acc.nodes_classed n h) ν.kind refl

  pub in_b : names_node (b_digit digits) ≡ true → Child l n (b_digit digits) ν.b
  in_b = child_b l (header l).conditions n (acc.nodes_fit n h) (acc.nodes_classed n h) ν.kind refl

  pub in_c : names_node (c_digit digits) ≡ true → Child l n (c_digit digits) ν.c
  in_c = child_c l (header l).conditions n (acc.nodes_fit n h) (acc.nodes_classed n h) ν.kind refl

  all_same : all_short (read_below l n) ν ≡ all_short (read l) ν
  unfolding all_short
  all_same =
      let below = still_short (read_below l n) in
      ap (λ u. below (below u (b_digit digits) ν.b) (c_digit digits) ν.c) (short_same l n true (a_digit digits) ν.a in_a)
      ∙ ap (λ u. below u (c_digit digits) ν.c) (short_same l n _ (b_digit digits) ν.b in_b)
      ∙ short_same l n _ (c_digit digits) ν.c in_c

  parts_same : (level : ℕ) → node_parts (λ level slot x. text_of slot level (read_below l n x)) (condition l) (all_short (read_below l n) ν) level ν ≡ parts_at l level ν
  unfolding node_parts parts_at
  parts_same level = λ i. record {
    a = field_same l n (suc level) (a_digit digits) ν.a in_a i;
    b = field_same l n (suc level) (b_digit digits) ν.b in_b i;
    c = field_same l n (suc level) (c_digit digits) ν.c in_c i;
    x = field_same l n level (a_digit digits) ν.a in_a i;
    y = field_same l n level (b_digit digits) ν.b in_b i;
    k = listedᶜ (condition l ν.a);
    variable = ν.variable;
    value = signed32 ν.value;
    flat = all_same i;
    level = level;
  }

  pub node_spelled : (level : ℕ) → node_text l level n ≡ spell (parts_at l level ν) (spelling ν.kind)
  unfolding node_text class read
  node_spelled level =
      spelled (condition l) (read_below l n) level ν (known (header l).conditions n ν (acc.nodes_fit n h))
      ∙ ap (λ p. spell p (spelling ν.kind)) (parts_same level)

-- ---- conditions

module _ (l : Bytes) (acc : Accepted l) (k : ℕ) (h : k < (header l).conditions) where
  abbrev r : ConditionRecord
  r = condition_record l k

  named_same : (digit value : ℕ) → (digit ≡ 1 → value < k) → named digit (listedᶜ (condition_below l k value)) ≡ named digit (listedᶜ (condition l value))
  unfolding named
  named_same digit value low =
      by_test (eqb digit 1) (λ u. cond u (listedᶜ (condition_below l k value)) [] ≡ cond u (listedᶜ (condition l value)) [])
      (λ e. ap listedᶜ (condition_same l k value (low (eqb-true digit 1 e)))) (λ e. refl)

  condition_parts_same : condition_parts (condition_below l k) r ≡ condition_parts (condition l) r
  unfolding condition_parts
  condition_parts_same =
      let digits : ℕ = condition_layout r.kind in
      let fits = acc.conditions_fit k h in
      λ i. record {
        a = named_same (digits / 8 % 8) r.left (left_below (header l).options k r fits r.kind refl) i;
        b = named_same (digits % 8) r.right (right_below (header l).options k r fits r.kind refl) i;
        c = bytes "C";
        x = bytes "X";
        y = bytes "Y";
        k = bytes "K";
        variable = r.option;
        value = pos 0;
        flat = true;
        level = 0;
      }

  pub condition_spelled_at : condition_text l k ≡ spell (condition_parts (condition l) r) (condition_spelling r.kind)
  unfolding condition_text condition
  condition_spelled_at =
      condition_spelled (condition_below l k) r (kind_below (header l).options k r (acc.conditions_fit k h))
      ∙ ap (λ p. spell p (condition_spelling r.kind)) condition_parts_same
