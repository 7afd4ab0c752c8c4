-- Behind a condition's first token: with its own record, and with one operand.
use mathlib.Core.Path.{◌≡◌, refl, sym, ◌∙◌, ap, ap₂, subst}
use Prim.Native.Nat.{ℕ, ◌+◌, ◌-◌, ◌≤◌, ◌<◌}
use mathlib.Core.Bool.{cond}
use mathlib.Core.List.{List, ◌∷◌, ◌++◌}
use native.Mathlib.Omega.{arith}
use lib.ListN.{length, take}
use borrow.Author.Tests.{ne_eqb}
use Rattle.imp.specs.Condition.{Condition, notᶜ}
use Rattle.image.specs.declared.kinds.ConditionKind.{ConditionKind}
use Rattle.image.specs.Kinds.{condition_kind_number}
use Rattle.std.specs.Prelude.{Ok, Err}
use Rattle.image.specs.declared.refusals.Refusal.{Refusal}
use Rattle.image.specs.Bytes.{Bytes}
use Rattle.image.specs.Term.{condition_word}
use Rattle.written.specs.Word.{RIGHT}
use Rattle.written.specs.Machine.{conditions, joins, Stack, mark, want, joined}
use Rattle.written.specs.Limits.{RECORDS}
use Rattle.written.specs.Count.{sizeᶜ}
use Rattle.written.specs.Image.{wordsᶜ}
use Rattle.reading.specs.declared.cursor.Cursor.{Cursor}
use Rattle.reading.specs.declared.lead.Lead.{Lead}
use Rattle.reading.specs.Inner.Way.{Good, Way}
use Rattle.reading.specs.Inner.Storing.{Storable, Stores}
use Rattle.reading.specs.Inner.Conditions.{ConditionReady, ReadsCondition}
use Rattle.reading.specs.Inner.ConditionLead.{leaf, rest_of, ConditionFrom}
use Rattle.reading.proofs.Ways.{then, then_refused}
use Rattle.reading.proofs.ConditionLeads.{any}
use Rattle.reading.proofs.ConditionStores.{reads_all}

-- ---- what is still to come, by the kind

rest_leaf : (F kind value : ℕ) (h : Condition → Stack) → (kind ≡ 3 → ⊥) → (kind ≡ 4 → ⊥) → rest_of F kind value h ≡ h (leaf kind value)
rest_leaf F kind value h m n =
    let two : Stack = want F conditions λ x. want F joins λ j. want F conditions λ y. mark RIGHT (h (joined j x y)) in
    ap₂ (λ u v. cond u (want F conditions λ x. h (notᶜ x)) (cond v two (h (leaf kind value)))) (ne_eqb kind 3 m) (ne_eqb kind 4 n)

rest_not : (F kind value : ℕ) (h : Condition → Stack) → kind ≡ 3 → rest_of F kind value h ≡ want F conditions λ x. h (notᶜ x)
rest_not F kind value h e = ap (λ k. rest_of F k value h) e

module _ (text : Bytes) (F : ℕ) (c : Cursor) (T : List ℕ) (o : Lead ConditionKind) (ready : ConditionReady text F c T) (C : ConditionFrom text F c (Ok o)) where
  good : Good text o.cursor
  good = (C.way any).good

  pub few : c.condition ≤ c.records
  few = ready.written_few

  -- a place is left for its own record
  own_room : (d : Cursor) (n : ℕ) → Good text d → d.records ≡ o.cursor.records + n → d.condition ≡ o.cursor.condition + n → d.condition < RECORDS
  own_room d n g e k = omega (arith, g.few_records, e, k, C.opened.records_opened, C.opened.kept.condition_kept, few)

  -- ---- one record

  pub leaf_storable : Storable o.cursor (condition_kind_number o.kind) o.value 0 0 T
  leaf_storable = record {
    space = ready.space;
    room = own_room o.cursor 0 good (omega arith) (omega arith);
    fields = record { kind_small = omega (arith, C.kind_small); option_small = omega (arith, C.small); left_small = omega arith; right_small = omega arith };
  }

  pub leaf_reads : {r : Cursor} {T' : List ℕ} → (condition_kind_number o.kind ≡ 3 → ⊥) → (condition_kind_number o.kind ≡ 4 → ⊥)
      → Stores o.cursor (condition_kind_number o.kind) o.value 0 0 T T' r → ReadsCondition text F c (Ok r) T T'
  leaf_reads m n S =
      let k : Condition = leaf (condition_kind_number o.kind) o.value in
      let one = C.is_leaf m n in
      reads_all S text F c k T
      (λ h. subst (Way text c o.cursor (want F conditions h)) (rest_leaf F (condition_kind_number o.kind) o.value h m n) (C.way h))
      (record {
        nodes_kept = omega (arith, C.opened.nodes_opened);
        node_kept = C.opened.kept.node_kept;
        records_opened = omega (arith, C.opened.records_opened, one.size_is);
        condition_is = omega (arith, C.opened.kept.condition_kept, one.size_is);
        room = omega (arith, leaf_storable.room, ready.space);
        words_are = λ r. ap (λ w. take c.condition T ++ w) (one.words_are c.condition r)
            ∙ ap (λ n. take n T ++ (condition_word (condition_kind_number o.kind) o.value 0 0 ∷ r)) (sym C.opened.kept.condition_kept);
      }) refl

  -- ---- an operand

  pub first_ready : ConditionReady text F o.cursor T
  first_ready = record { good = good; options_few = ready.options_few; space = ready.space; written_few = omega (arith, few, C.opened.records_opened, C.opened.kept.condition_kept) }

  pub first_less : length text - o.cursor.at < length text - c.at
  first_less = omega (arith, C.further, good.inside)

  -- it is refused
  pub not_refused : {T₁ : List ℕ} (e : Refusal) → condition_kind_number o.kind ≡ 3 → ReadsCondition text F o.cursor (Err e) T T₁ → ReadsCondition text F c (Err e) T T₁
  not_refused e q A = record {
    read = λ h. then_refused e (subst (Way text c o.cursor (want F conditions h)) (rest_not F (condition_kind_number o.kind) o.value h q) (C.way h)) (A.read (λ x. h (notᶜ x)));
    same_space = A.same_space;
  }

  module _ {a : Cursor} {T₁ : List ℕ} (A : ReadsCondition text F o.cursor (Ok a) T T₁) where
    abbrev x : Condition
    x = A.read.condition

    first_good : Good text a
    first_good = (A.read.way any).good

    pub space₁ : length T₁ ≡ RECORDS
    space₁ = A.same_space ∙ ready.space

    pub first_at : a.condition ≡ c.condition + sizeᶜ x
    first_at = omega (arith, A.read.wrote.condition_is, C.opened.kept.condition_kept)

    -- the records of the first operand, behind those before it
    pub first_are : (r : List ℕ) → take c.condition T ++ wordsᶜ x c.condition r ≡ take a.condition T₁ ++ r
    first_are r = subst (λ n. take n T ++ wordsᶜ x n r ≡ take a.condition T₁ ++ r) C.opened.kept.condition_kept (A.read.wrote.records_are r)

    module _ {left : ℕ} (left_is : left ≡ a.condition - 1) where
      pub not_storable : Storable a 3 0 left 0 T₁
      not_storable = record {
        space = space₁;
        room = room;
        fields = record { kind_small = omega arith; option_small = omega arith; left_small = omega (arith, room, left_is); right_small = omega arith };
      }
        where
          room : a.condition < RECORDS
          room = own_room a (sizeᶜ x) first_good A.read.wrote.records_opened A.read.wrote.condition_is

      pub not_reads : {r : Cursor} {T' : List ℕ} → condition_kind_number o.kind ≡ 3 → Stores a 3 0 left 0 T₁ T' r → ReadsCondition text F c (Ok r) T T'
      unfolding sizeᶜ wordsᶜ
      not_reads e S =
          reads_all S text F c (notᶜ x) T
          (λ h. then (subst (Way text c o.cursor (want F conditions h)) (rest_not F (condition_kind_number o.kind) o.value h e) (C.way h)) (A.read.way (λ x. h (notᶜ x))))
          (let at = first_at in
          let left_at : c.condition + sizeᶜ x - 1 ≡ left = omega (arith, at, left_is) in
          record {
            nodes_kept = omega (arith, A.read.wrote.nodes_kept, C.opened.nodes_opened);
            node_kept = A.read.wrote.node_kept ∙ C.opened.kept.node_kept;
            records_opened = omega (arith, A.read.wrote.records_opened, C.opened.records_opened);
            condition_is = omega (arith, at);
            room = omega (arith, not_storable.room, space₁);
            words_are = λ r. first_are (condition_word 3 0 (c.condition + sizeᶜ x - 1) 0 ∷ r) ∙ ap (λ n. take a.condition T₁ ++ (condition_word 3 0 n 0 ∷ r)) left_at;
          }) A.same_space
