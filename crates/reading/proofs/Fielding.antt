-- The parts of a node one behind the other: each leaves what the next one asks for.
use mathlib.Core.Path.{◌≡◌, refl, sym, ◌∙◌, ap, subst}
use Prim.Native.Nat.{ℕ, zero, suc, ◌≤◌, ◌<◌}
use mathlib.Core.Bool.{Bool, true, false, ◌&&◌, true≢false}
use mathlib.Core.List.{List, ◌++◌}
use native.Mathlib.Omega.{arith}
use lib.Dec.{ltb}
use lib.ListN.{take}
use borrow.Author.Tests.{ltb-true}
use Rattle.std.specs.Prelude.{Result, Ok, Err}
use Rattle.image.specs.declared.refusals.Refusal.{Refusal}
use Rattle.image.specs.Bytes.{Bytes}
use Rattle.image.specs.Layout.{names_node}
use mathlib.Core.Option.{Option}
use Rattle.written.specs.Token.{Lexeme, nothing}
use Rattle.written.specs.Machine.{Stack, done}
use Rattle.reading.specs.declared.cursor.Cursor.{Cursor}
use Rattle.reading.specs.declared.number.Number.{Number}
use Rattle.reading.specs.Inner.Way.{Way, Opened}
use Rattle.reading.specs.Inner.Parts.{Slot, empty, of_condition, a_condition, no_part, slot_of}
use Rattle.reading.specs.Inner.Marks.{Marks}
use Rattle.reading.specs.Inner.Conditions.{ReadsCondition}
use Rattle.reading.specs.Inner.Node.{PartReady, ReadsPart, BehindA}
use Rattle.reading.proofs.Tokens.{nothing_read}
use Rattle.reading.proofs.Ways.{stays}

-- what a step that opens nothing and writes nothing leaves; there is still a place for a node that has been opened
pub record Next (text : Bytes) (F : ℕ) (c c' : Cursor) (nodes records : List ℕ) : Type 0 where
  pub ready : PartReady text F c' nodes records
  pub stays_open : c.node < c.nodes → c'.node < c'.nodes
  pub forth : c.at ≤ c'.at

next : {text : Bytes} {F : ℕ} {c c' : Cursor} {nodes records : List ℕ} {A B : Stack} → PartReady text F c nodes records → Way text c c' A B → Opened c c' nothing → Next text F c c' nodes records
next R w o = record {
  ready = record {
    good = w.good;
    options_few = R.options_few;
    node_space = R.node_space;
    record_space = R.record_space;
    nodes_few = omega (arith, o.kept.node_kept, o.nodes_opened, R.nodes_few);
    conditions_few = omega (arith, o.kept.condition_kept, o.records_opened, R.conditions_few);
  };
  stays_open = λ h. omega (arith, o.kept.node_kept, o.nodes_opened, h);
  forth = w.forth;
}

pub behind_mark : {text : Bytes} {F : ℕ} {c c' : Cursor} {nodes records : List ℕ} {o : Option Lexeme} → PartReady text F c nodes records → Marks text c o (Ok c') → Next text F c c' nodes records
behind_mark R m = next R (m.way (done nothing_read)) m.opened

pub behind_first : {text : Bytes} {F : ℕ} {c : Cursor} {v : Number} {nodes records : List ℕ} {kind value : ℕ} {o : Option Lexeme} → PartReady text F c nodes records → BehindA text c kind o value (Ok v)
    → Next text F c v.cursor nodes records
behind_first R b = next R (b.way 0 (λ i. done nothing_read)) b.opened

-- what a part leaves
pub behind_part : {text : Bytes} {F : ℕ} {slot : Slot} {c c' : Cursor} {nodes nodes' records records' : List ℕ} → PartReady text F c nodes records
    → ReadsPart text F slot c (Ok c') nodes nodes' records records' → Next text F c c' nodes' records'
behind_part R p =
    let w = p.read.way (λ i. done nothing_read) in
    record {
      ready = record {
        good = w.good;
        options_few = R.options_few;
        node_space = p.same_nodes ∙ R.node_space;
        record_space = p.same_records ∙ R.record_space;
        nodes_few = omega (arith, p.read.wrote.node_is, p.read.wrote.nodes_opened, R.nodes_few);
        conditions_few = omega (arith, p.read.wrote.condition_is, p.read.wrote.records_opened, R.conditions_few);
      };
      stays_open = λ h. omega (arith, p.read.wrote.node_is, p.read.wrote.nodes_opened, h);
      forth = w.forth;
    }

-- ---- a field

-- none
pub no_field : (text : Bytes) (F : ℕ) (c : Cursor) (nodes records : List ℕ) → PartReady text F c nodes records → ReadsPart text F empty c (Ok c) nodes nodes records records
no_field text F c nodes records R = record {
  read = record {
    part = no_part;
    way = λ g. stays (g no_part) R.good;
    wrote = record { nodes_opened = omega arith; records_opened = omega arith; node_is = omega arith; condition_is = omega arith; nodes_are = λ r. refl; records_are = λ r. refl };
  };
  same_nodes = refl;
  same_records = refl;
}

pub condition_field : (text : Bytes) (F : ℕ) (c : Cursor) (r : Result Cursor Refusal) (nodes records records' : List ℕ) → ReadsCondition text F c r records records'
    → ReadsPart text F of_condition c r nodes nodes records records'
condition_field text F c (Ok c') nodes records records' p = record {
  read = record {
    part = a_condition p.read.condition;
    way = λ g. p.read.way (λ k. g (a_condition k));
    wrote = record {
      nodes_opened = omega (arith, p.read.wrote.nodes_kept);
      records_opened = p.read.wrote.records_opened;
      node_is = omega (arith, p.read.wrote.node_kept);
      condition_is = p.read.wrote.condition_is;
      nodes_are = λ r. ap (λ n. take n nodes ++ r) (sym p.read.wrote.node_kept);
      records_are = p.read.wrote.records_are;
    };
  };
  same_nodes = refl;
  same_records = p.same_space;
}
condition_field text F c (Err e) nodes records records' p = record { read = λ g. p.read (λ k. g (a_condition k)); same_nodes = refl; same_records = p.same_space }

-- the slot of a digit
pub of_slot : (text : Bytes) (F : ℕ) (s s' : Slot) (c : Cursor) (r : Result Cursor Refusal) (nodes nodes' records records' : List ℕ) → s ≡ s' → ReadsPart text F s c r nodes nodes' records records'
    → ReadsPart text F s' c r nodes nodes' records records'
of_slot text F s s' c r nodes nodes' records records' e p = subst (λ s. ReadsPart text F s c r nodes nodes' records records') e p

pub condition_slot : (n : ℕ) → n ≡ 4 → of_condition ≡ slot_of n
unfolding slot_of
condition_slot n e = ap slot_of (sym e)

pub no_slot : (n : ℕ) (u : Bool) → u ≡ names_node n → u ≡ false → (n ≡ 4 → ⊥) → empty ≡ slot_of n
unfolding slot_of names_node
no_slot zero u e f k = refl
no_slot (suc zero) u e f k = absurd (true≢false (sym e ∙ f))
no_slot (suc (suc zero)) u e f k = absurd (true≢false (sym e ∙ f))
no_slot (suc (suc (suc zero))) u e f k = absurd (true≢false (sym e ∙ f))
no_slot (suc (suc (suc (suc zero)))) u e f k = absurd (k refl)
no_slot (suc (suc (suc (suc (suc n))))) u e f k = refl

pub class_small : (n : ℕ) (u : Bool) → u ≡ names_node n → u ≡ true → (0 < n) × (n ≤ 3)
unfolding names_node
class_small n u e f = by (ltb 0 n) refl (ltb n 4) refl (sym e ∙ f)
  where
    by : (v : Bool) → ltb 0 n ≡ v → (w : Bool) → ltb n 4 ≡ w → (v && w) ≡ true → (0 < n) × (n ≤ 3)
    by true i true j k = (ltb-true 0 n i, omega (arith, ltb-true n 4 j))
    by true i false j k = absurd (true≢false (sym k))
    by false i w j k = absurd (true≢false (sym k))
