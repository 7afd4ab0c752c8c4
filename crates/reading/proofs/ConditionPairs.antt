-- Behind a bracket: two operands, the word between them and the closing bracket, and then their own record.
use mathlib.Core.Path.{◌≡◌, refl, sym, ◌∙◌, ap, ap₂, subst}
use Prim.Native.Nat.{ℕ, suc, ◌+◌, ◌-◌, ◌≤◌, ◌<◌}
use mathlib.Core.Bool.{Bool, true, false, cond}
use mathlib.Core.List.{List, ◌∷◌, ◌++◌}
use native.Mathlib.Omega.{arith}
use lib.ListN.{length, take}
use Rattle.imp.specs.Condition.{Condition}
use Rattle.image.specs.declared.kinds.ConditionKind.{ConditionKind}
use Rattle.image.specs.Kinds.{condition_kind_number}
use Rattle.std.specs.Prelude.{Ok, Err}
use Rattle.image.specs.declared.refusals.Refusal.{Refusal}
use Rattle.image.specs.Bytes.{Bytes}
use Rattle.image.specs.Term.{condition_word}
use Rattle.written.specs.Word.{RIGHT}
use Rattle.written.specs.Machine.{conditions, joins, Stack, mark, want, joined}
use Rattle.written.specs.Limits.{RECORDS}
use Rattle.written.specs.Count.{sizeᶜ}
use Rattle.written.specs.Image.{wordsᶜ}
use Rattle.reading.specs.declared.cursor.Cursor.{Cursor}
use Rattle.reading.specs.declared.lead.Lead.{Lead}
use Rattle.reading.specs.Inner.Way.{Good, Way}
use Rattle.reading.specs.Inner.Storing.{Storable, Stores}
use Rattle.reading.specs.Inner.Conditions.{ConditionReady, ReadsCondition}
use Rattle.reading.specs.Inner.ConditionLead.{rest_of, ConditionFrom, JoinFrom}
use Rattle.reading.specs.Inner.Token.{fixed_to}
use Rattle.reading.proofs.Ways.{then, then_refused}
use Rattle.reading.proofs.Marking.{Fixed, fixed_way}
use Rattle.reading.proofs.ConditionLeads.{any}
use Rattle.reading.proofs.ConditionStores.{reads_all}
use Rattle.reading.proofs.ConditionParts as One

rest_two : (F kind value : ℕ) (h : Condition → Stack) → kind ≡ 4 → rest_of F kind value h ≡ want F conditions λ x. want F joins λ j. want F conditions λ y. mark RIGHT (h (joined j x y))
rest_two F kind value h e = ap (λ k. rest_of F k value h) e

-- ---- the records of two conditions and their own

size_two : (u : Bool) (x y : Condition) → sizeᶜ (joined u x y) ≡ suc (sizeᶜ x + sizeᶜ y)
unfolding sizeᶜ
size_two true x y = refl
size_two false x y = refl

words_two : (u : Bool) (x y : Condition) (n : ℕ) (r : List ℕ)
    → wordsᶜ (joined u x y) n r ≡ wordsᶜ x n (wordsᶜ y (n + sizeᶜ x) (condition_word (cond u 4 5) 0 (n + sizeᶜ x - 1) (n + sizeᶜ x + sizeᶜ y - 1) ∷ r))
unfolding wordsᶜ
words_two true x y n r = refl
words_two false x y n r = refl

kind_few : (u : Bool) → cond u 4 5 < 16
kind_few true = omega arith
kind_few false = omega arith

module _ (text : Bytes) (F : ℕ) (c : Cursor) (T : List ℕ) (o : Lead ConditionKind) (ready : ConditionReady text F c T) (C : ConditionFrom text F c (Ok o)) (q : condition_kind_number o.kind ≡ 4) where
  -- what is still to come behind the bracket, behind the first operand, behind the word between them and behind the second one
  abbrev in_bracket : (Condition → Stack) → Condition → Stack
  in_bracket h x = want F joins λ j. want F conditions λ y. mark RIGHT (h (joined j x y))

  abbrev between : (Condition → Stack) → Condition → Bool → Stack
  between h x j = want F conditions λ y. mark RIGHT (h (joined j x y))

  bracket : (h : Condition → Stack) → Way text c o.cursor (want F conditions h) (want F conditions (in_bracket h))
  bracket h = subst (Way text c o.cursor (want F conditions h)) (rest_two F (condition_kind_number o.kind) o.value h q) (C.way h)

  -- the first operand is refused
  pub first_refused : {T₁ : List ℕ} (e : Refusal) → ReadsCondition text F o.cursor (Err e) T T₁ → ReadsCondition text F c (Err e) T T₁
  first_refused e A = record { read = λ h. then_refused e (bracket h) (A.read (in_bracket h)); same_space = A.same_space }

  module _ {a : Cursor} {T₁ : List ℕ} (A : ReadsCondition text F o.cursor (Ok a) T T₁) where
    abbrev x : Condition
    x = A.read.condition

    few : c.condition ≤ c.records
    few = One.few text F c T o ready C

    space₁ : length T₁ ≡ RECORDS
    space₁ = One.space₁ text F c T o ready C A

    first_at : a.condition ≡ c.condition + sizeᶜ x
    first_at = One.first_at text F c T o ready C A

    to_first : (h : Condition → Stack) → Way text c a (want F conditions h) (in_bracket h x)
    to_first h = then (bracket h) (A.read.way (in_bracket h))

    -- the word between them is refused
    pub join_refused : (e : Refusal) → JoinFrom text a (Err e) → ReadsCondition text F c (Err e) T T₁
    join_refused e J = record { read = λ h. then_refused e (to_first h) (J F (between h x)); same_space = A.same_space }

    module _ {j : Lead ConditionKind} (J : JoinFrom text a (Ok j)) where
      good_join : Good text j.cursor
      good_join = (J.way F (λ u. any x)).good

      pub second_ready : ConditionReady text F j.cursor T₁
      second_ready = record {
        good = good_join;
        options_few = ready.options_few;
        space = space₁;
        written_few = let w = A.read.wrote in
            omega (arith, few, C.opened.records_opened, C.opened.kept.condition_kept, w.records_opened, w.condition_is, J.opened.records_opened, J.opened.kept.condition_kept);
      }

      pub second_less : length text - j.cursor.at < length text - c.at
      second_less = omega (arith, C.further, (A.read.way any).forth, (J.way F (λ u. any x)).forth, good_join.inside)

      to_join : (h : Condition → Stack) → Way text c j.cursor (want F conditions h) (between h x J.is_and)
      to_join h = then (to_first h) (J.way F (between h x))

      -- the second operand is refused
      pub second_refused : {T₂ : List ℕ} (e : Refusal) → ReadsCondition text F j.cursor (Err e) T₁ T₂ → ReadsCondition text F c (Err e) T T₂
      second_refused e B = record { read = λ h. then_refused e (to_join h) (B.read (λ y. mark RIGHT (h (joined J.is_and x y)))); same_space = B.same_space ∙ A.same_space }

      module _ {b : Cursor} {T₂ : List ℕ} (B : ReadsCondition text F j.cursor (Ok b) T₁ T₂) where
        abbrev y : Condition
        y = B.read.condition

        second_good : Good text b
        second_good = (B.read.way any).good

        to_second : (h : Condition → Stack) → Way text c b (want F conditions h) (mark RIGHT (h (joined J.is_and x y)))
        to_second h = then (to_join h) (B.read.way (λ y. mark RIGHT (h (joined J.is_and x y))))

        -- the closing bracket is refused
        pub close_refused : (e : Refusal) → Err e ≡ fixed_to text b (RIGHT.head ∷ RIGHT.rest) → ReadsCondition text F c (Err e) T T₂
        close_refused e f = record {
          read = λ h. then_refused e (to_second h) (fixed_way text b second_good RIGHT (Err e) f (h (joined J.is_and x y)));
          same_space = B.same_space ∙ A.same_space;
        }

        module _ {d : Cursor} (d-is : Ok d ≡ fixed_to text b (RIGHT.head ∷ RIGHT.rest)) where
          closes : Fixed text b RIGHT d
          closes = fixed_way text b second_good RIGHT (Ok d) d-is

          good_end : Good text d
          good_end = (closes.way (any x)).good

          -- both operands have been written
          at_b : b.condition ≡ c.condition + sizeᶜ x + sizeᶜ y
          at_b = omega (arith, A.read.wrote.condition_is, B.read.wrote.condition_is, C.opened.kept.condition_kept, J.opened.kept.condition_kept)

          at_d : d.condition ≡ b.condition
          at_d = closes.opened.kept.condition_kept

          records_d : d.records ≡ suc (c.records + sizeᶜ x + sizeᶜ y)
          records_d = omega (arith, A.read.wrote.records_opened, B.read.wrote.records_opened, C.opened.records_opened, J.opened.records_opened, closes.opened.records_opened)

          in-room : d.condition < RECORDS
          in-room = omega (arith, good_end.few_records, records_d, at_b, at_d, few)

          space₂ : length T₂ ≡ RECORDS
          space₂ = B.same_space ∙ space₁

          second_are : (r : List ℕ) → take c.condition T ++ wordsᶜ x c.condition (wordsᶜ y (c.condition + sizeᶜ x) r) ≡ take d.condition T₂ ++ r
          second_are r =
              let n : j.cursor.condition ≡ c.condition + sizeᶜ x = omega (arith, J.opened.kept.condition_kept, first_at) in
              One.first_are text F c T o ready C A (wordsᶜ y (c.condition + sizeᶜ x) r)
              ∙ ap (λ m. take m T₁ ++ wordsᶜ y (c.condition + sizeᶜ x) r) (sym J.opened.kept.condition_kept)
              ∙ ap (λ m. take j.cursor.condition T₁ ++ wordsᶜ y m r) (sym n)
              ∙ B.read.wrote.records_are r
              ∙ ap (λ m. take m T₂ ++ r) (sym at_d)

          module _ {left right : ℕ} (left_is : left ≡ a.condition - 1) (right_is : right ≡ b.condition - 1) where
            pub two_storable : Storable d (condition_kind_number j.kind) 0 left right T₂
            two_storable = record {
              space = space₂;
              room = in-room;
              fields = record {
                kind_small = omega (arith, J.kind_is, kind_few J.is_and);
                option_small = omega arith;
                left_small = omega (arith, left_is, first_at, at_b, at_d, in-room);
                right_small = omega (arith, right_is, at_b, at_d, in-room);
              };
            }

            pub two_reads : {r : Cursor} {T' : List ℕ} → Stores d (condition_kind_number j.kind) 0 left right T₂ T' r → ReadsCondition text F c (Ok r) T T'
            two_reads S =
                let u : Bool = J.is_and in
                reads_all S text F c (joined u x y) T (λ h. then (to_second h) (closes.way (h (joined u x y))))
                (let s = size_two u x y in
                let left_at : c.condition + sizeᶜ x - 1 ≡ left = omega (arith, first_at, left_is) in
                let right-at : c.condition + sizeᶜ x + sizeᶜ y - 1 ≡ right = omega (arith, at_b, right_is) in
                record {
                  nodes_kept = omega (arith, A.read.wrote.nodes_kept, B.read.wrote.nodes_kept, C.opened.nodes_opened, J.opened.nodes_opened, closes.opened.nodes_opened);
                  node_kept = closes.opened.kept.node_kept ∙ B.read.wrote.node_kept ∙ J.opened.kept.node_kept ∙ A.read.wrote.node_kept ∙ C.opened.kept.node_kept;
                  records_opened = omega (arith, records_d, s);
                  condition_is = omega (arith, at_d, at_b, s);
                  room = omega (arith, in-room, space₂);
                  words_are = λ r. ap (λ ws. take c.condition T ++ ws) (words_two u x y c.condition r)
                      ∙ second_are (condition_word (cond u 4 5) 0 (c.condition + sizeᶜ x - 1) (c.condition + sizeᶜ x + sizeᶜ y - 1) ∷ r)
                      ∙ ap (λ k. take d.condition T₂ ++ (condition_word k 0 (c.condition + sizeᶜ x - 1) (c.condition + sizeᶜ x + sizeᶜ y - 1) ∷ r)) (sym J.kind_is)
                      ∙ ap₂ (λ m n. take d.condition T₂ ++ (condition_word (condition_kind_number j.kind) 0 m n ∷ r)) left_at right-at;
                }) (B.same_space ∙ A.same_space)
