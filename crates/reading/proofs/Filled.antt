-- A node and its parts: the way behind them, and the records that they leave.
use mathlib.Core.Path.{◌≡◌, refl, sym, ◌∙◌, ap, ap₂, subst}
use Prim.Native.Nat.{ℕ, suc, ◌+◌, ◌/◌, ◌%◌, ◌^◌, ◌≤◌, ◌<◌}
use mathlib.Core.Bool.{Bool, true, false}
use mathlib.Core.List.{List, ◌∷◌, ◌++◌}
use native.Mathlib.Omega.{arith}
use lib.Dec.{eqb}
use lib.ListN.{length, take, set, length-set}
use borrow.Author.Tests.{eqb-true, eqb-false}
use Rattle.std.specs.Prelude.{Ok, Err}
use Rattle.image.specs.declared.refusals.Refusal.{Refusal}
use Rattle.image.specs.Bytes.{Bytes}
use Rattle.image.specs.Layout.{layout, variable_digit}
use Rattle.image.specs.Tree.{kind_of}
use Rattle.written.specs.Machine.{Stack, done}
use Rattle.reading.specs.declared.cursor.Cursor.{Cursor}
use Rattle.reading.specs.declared.number.Number.{Number}
use Rattle.reading.specs.Inner.Way.{Good, Way}
use Rattle.reading.specs.Inner.Parts.{Part, a_slot, b_slot, c_slot, own_slot, slot_of, marks_of, made_of, follow}
use Rattle.reading.specs.Inner.Marks.{Marks}
use Rattle.reading.specs.Inner.Node.{nodes_of, choices_of, name_of, own_word, before_lead, Wrote, ReadsPart, FieldsReady, ReadsFields, BehindA, Finishing, Finishes}
use Rattle.reading.proofs.Tokens.{nothing_read}
use Rattle.reading.proofs.Ways.{then, then_refused}
use Rattle.reading.proofs.Building.{Builds, builds}
use Rattle.reading.proofs.Fielding.{Next, behind_mark, behind_first, behind_part}
use Rattle.reading.proofs.ConditionStores.{take_store}

module _ {text : Bytes} {F kind value digits : ℕ} {c : Cursor} {t k : List ℕ} (R : FieldsReady text F kind value c t k) (x : digits ≡ layout kind) where
  abbrev any : Stack
  any = done nothing_read

  -- the mark before a is refused
  pub wrong₁ : {e : Refusal} → Marks text c (marks_of kind).before_a (Err e) → ReadsFields text F kind value c (Err e) t t k k
  unfolding follow
  wrong₁ {e} h = record { read = λ g. h _; same_nodes = refl; same_records = refl }

  module _ {c₁ : Cursor} (before_a : Marks text c (marks_of kind).before_a (Ok c₁)) where
    B₁ : Marks text c (marks_of kind).before_a (Ok c₁)
    B₁ = before_a

    pub next₁ : Next text F c c₁ t k
    next₁ = behind_mark R.ready B₁

    -- a is refused
    pub wrong₂ : {e : Refusal} {t₁ k₁ : List ℕ} → ReadsPart text F (slot_of (digits / 64 % 8)) c₁ (Err e) t t₁ k k₁ → ReadsFields text F kind value c (Err e) t t₁ k k₁
    unfolding follow
    wrong₂ {e} {t₁} {k₁} h =
        let p : ReadsPart text F (a_slot kind) c₁ (Err e) t t₁ k k₁ = subst (λ d. ReadsPart text F (slot_of (d / 64 % 8)) c₁ (Err e) t t₁ k k₁) x h in
        record { read = λ g. then_refused e (B₁.way _) (p.read _); same_nodes = p.same_nodes; same_records = p.same_records }

    module _ {a : Cursor} {t₁ k₁ : List ℕ} (in_a : ReadsPart text F (slot_of (digits / 64 % 8)) c₁ (Ok a) t t₁ k k₁) where
      A : ReadsPart text F (a_slot kind) c₁ (Ok a) t t₁ k k₁
      A = subst (λ d. ReadsPart text F (slot_of (d / 64 % 8)) c₁ (Ok a) t t₁ k k₁) x in_a

      pub next₂ : Next text F c₁ a t₁ k₁
      next₂ = behind_part next₁.ready A

      -- what stands behind a is refused
      pub wrong₃ : {e : Refusal} → BehindA text a kind (marks_of kind).behind_a value (Err e) → ReadsFields text F kind value c (Err e) t t₁ k k₁
      unfolding follow
      wrong₃ {e} h =
          let p : BehindA text a kind (marks_of kind).behind_a value (Err e) = h in
          record { read = λ g. then_refused e (B₁.way _) (then_refused e (A.read.way _) (p F _)); same_nodes = A.same_nodes; same_records = A.same_records }

      module _ {v : Number} (behind_it : BehindA text a kind (marks_of kind).behind_a value (Ok v)) where
        V : BehindA text a kind (marks_of kind).behind_a value (Ok v)
        V = behind_it

        pub next₃ : Next text F a v.cursor t₁ k₁
        next₃ = behind_first next₂.ready V

        -- b is refused
        pub wrong₄ : {e : Refusal} {t₂ k₂ : List ℕ} → ReadsPart text F (slot_of (digits / 8 % 8)) v.cursor (Err e) t₁ t₂ k₁ k₂ → ReadsFields text F kind value c (Err e) t t₂ k k₂
        unfolding follow
        wrong₄ {e} {t₂} {k₂} h =
            let p : ReadsPart text F (b_slot kind) v.cursor (Err e) t₁ t₂ k₁ k₂ = subst (λ d. ReadsPart text F (slot_of (d / 8 % 8)) v.cursor (Err e) t₁ t₂ k₁ k₂) x h in
            record {
              read = λ g. then_refused e (B₁.way _) (then_refused e (A.read.way _) (then_refused e (V.way F _) (p.read _)));
              same_nodes = p.same_nodes ∙ A.same_nodes;
              same_records = p.same_records ∙ A.same_records;
            }

        module _ {b : Cursor} {t₂ k₂ : List ℕ} (in_b : ReadsPart text F (slot_of (digits / 8 % 8)) v.cursor (Ok b) t₁ t₂ k₁ k₂) where
          B : ReadsPart text F (b_slot kind) v.cursor (Ok b) t₁ t₂ k₁ k₂
          B = subst (λ d. ReadsPart text F (slot_of (d / 8 % 8)) v.cursor (Ok b) t₁ t₂ k₁ k₂) x in_b

          pub next₄ : Next text F v.cursor b t₂ k₂
          next₄ = behind_part next₃.ready B

          -- the mark before c is refused
          pub wrong₅ : {e : Refusal} → Marks text b (marks_of kind).behind_b (Err e) → ReadsFields text F kind value c (Err e) t t₂ k k₂
          unfolding follow
          wrong₅ {e} h =
              let p : Marks text b (marks_of kind).behind_b (Err e) = h in
              record {
                read = λ g. then_refused e (B₁.way _) (then_refused e (A.read.way _) (then_refused e (V.way F _) (then_refused e (B.read.way _) (p _))));
                same_nodes = B.same_nodes ∙ A.same_nodes;
                same_records = B.same_records ∙ A.same_records;
              }

          module _ {c₃ : Cursor} (before_c : Marks text b (marks_of kind).behind_b (Ok c₃)) where
            B₃ : Marks text b (marks_of kind).behind_b (Ok c₃)
            B₃ = before_c

            pub next₅ : Next text F b c₃ t₂ k₂
            next₅ = behind_mark next₄.ready B₃

            -- c is refused
            pub wrong₆ : {e : Refusal} {t₃ k₃ : List ℕ} → ReadsPart text F (slot_of (digits % 8)) c₃ (Err e) t₂ t₃ k₂ k₃ → ReadsFields text F kind value c (Err e) t t₃ k k₃
            unfolding follow
            wrong₆ {e} {t₃} {k₃} h =
                let p : ReadsPart text F (c_slot kind) c₃ (Err e) t₂ t₃ k₂ k₃ = subst (λ d. ReadsPart text F (slot_of (d % 8)) c₃ (Err e) t₂ t₃ k₂ k₃) x h in
                record {
                  read = λ g. then_refused e (B₁.way _) (then_refused e (A.read.way _) (then_refused e (V.way F _) (then_refused e (B.read.way _) (then_refused e (B₃.way _) (p.read _)))));
                  same_nodes = p.same_nodes ∙ B.same_nodes ∙ A.same_nodes;
                  same_records = p.same_records ∙ B.same_records ∙ A.same_records;
                }

            module _ {d : Cursor} {t₃ k₃ : List ℕ} (in_c : ReadsPart text F (slot_of (digits % 8)) c₃ (Ok d) t₂ t₃ k₂ k₃) where
              C : ReadsPart text F (c_slot kind) c₃ (Ok d) t₂ t₃ k₂ k₃
              C = subst (λ i. ReadsPart text F (slot_of (i % 8)) c₃ (Ok d) t₂ t₃ k₂ k₃) x in_c

              pub next₆ : Next text F c₃ d t₃ k₃
              next₆ = behind_part next₅.ready C

              same_nodes : length t₃ ≡ length t
              same_nodes = C.same_nodes ∙ B.same_nodes ∙ A.same_nodes

              same_records : length k₃ ≡ length k
              same_records = C.same_records ∙ B.same_records ∙ A.same_records

              -- the mark behind all is refused
              pub wrong₇ : {e : Refusal} → Marks text d (marks_of kind).behind_c (Err e) → ReadsFields text F kind value c (Err e) t t₃ k k₃
              unfolding follow
              wrong₇ {e} h =
                  let p : Marks text d (marks_of kind).behind_c (Err e) = h in
                  record {
                    read = λ g. then_refused e (B₁.way _) (then_refused e (A.read.way _) (then_refused e (V.way F _)
                        (then_refused e (B.read.way _) (then_refused e (B₃.way _) (then_refused e (C.read.way _) (p _))))));
                    same_nodes = same_nodes;
                    same_records = same_records;
                  }

              module _ {e : Cursor} (behind_all : Marks text d (marks_of kind).behind_c (Ok e)) where
                D : Marks text d (marks_of kind).behind_c (Ok e)
                D = behind_all

                next₇ : Next text F d e t₃ k₃
                next₇ = behind_mark next₆.ready D

                opened_e : e.node < e.nodes
                opened_e = next₇.stays_open (next₆.stays_open (next₅.stays_open (next₄.stays_open (next₃.stays_open (next₂.stays_open (next₁.stays_open R.node_open))))))

                -- ---- what finishing asks for

                pub finishing : Finishing kind v.value a b e t₃
                finishing = record {
                  known = R.known;
                  value_small = small (eqb kind 22) refl;
                  variable_small = λ h. fifteen (eqb kind 22) refl h;
                  space = next₇.ready.node_space;
                  room = omega (arith, opened_e, next₇.ready.good.few_nodes);
                  a_few = (omega (arith, next₂.ready.nodes_few, next₂.ready.good.few_nodes), omega (arith, next₂.ready.conditions_few, next₂.ready.good.few_records));
                  b_few = (omega (arith, next₄.ready.nodes_few, next₄.ready.good.few_nodes), omega (arith, next₄.ready.conditions_few, next₄.ready.good.few_records));
                  c_few = omega (arith, next₇.ready.conditions_few, next₇.ready.good.few_records);
                }
                  where
                    small : (u : Bool) → eqb kind 22 ≡ u → v.value < 2 ^ 32
                    small true i = omega (arith, V.variable_small (eqb-true kind 22 i))
                    small false i = omega (arith, V.same_value (eqb-false kind 22 i), R.value_small)

                    fifteen : (u : Bool) → eqb kind 22 ≡ u → variable_digit (layout kind) ≡ 1 → v.value ≤ 15
                    fifteen true i h = V.variable_small (eqb-true kind 22 i)
                    fifteen false i h = omega (arith, V.same_value (eqb-false kind 22 i), R.variable_small h)

                -- ---- what it leaves

                abbrev part : Part
                part = made_of (kind_of kind) v.value A.read.part B.read.part C.read.part

                abbrev next_node : Cursor
                next_node = record { at = e.at; tight = e.tight; nodes = e.nodes; records = e.records; node = e.node + 1; condition = e.condition }

                finish_way : (s : Stack) → Way text e next_node s s
                finish_way s =
                    let good : Good text e = next₇.ready.good in
                    record {
                      forth = omega arith;
                      good = record { inside = good.inside; few_nodes = good.few_nodes; few_records = good.few_records };
                      goes = λ w h. (w, record { at_is = h.at_is; nodes_are = h.nodes_are; records_are = h.records_are }, refl);
                    }

                goes : (g : Part → Stack) → Way text c next_node (follow F kind value g) (g part)
                unfolding follow
                goes g = then (B₁.way _) (then (A.read.way _) (then (V.way F _) (then (B.read.way _) (then (B₃.way _) (then (C.read.way _) (then (D.way _) (finish_way (g part))))))))

                -- the parts in the order of the node's records
                builds_it : Builds kind v.value A.read.part B.read.part C.read.part
                builds_it = builds kind R.known v.value A.read.part B.read.part C.read.part finishing.value_small

                word : ℕ
                word = own_word kind v.value (name_of (a_slot kind) a) (name_of (b_slot kind) b) (name_of (c_slot kind) e)

                -- the cursors' numbers
                n₁ : c₁.node ≡ c.node
                n₁ = B₁.opened.kept.node_kept

                j₁ : c₁.condition ≡ c.condition
                j₁ = B₁.opened.kept.condition_kept

                nv : v.cursor.node ≡ a.node
                nv = V.opened.kept.node_kept

                jv : v.cursor.condition ≡ a.condition
                jv = V.opened.kept.condition_kept

                n₃ : c₃.node ≡ b.node
                n₃ = B₃.opened.kept.node_kept

                j₃ : c₃.condition ≡ b.condition
                j₃ = B₃.opened.kept.condition_kept

                ne : e.node ≡ d.node
                ne = D.opened.kept.node_kept

                je : e.condition ≡ d.condition
                je = D.opened.kept.condition_kept

                nodes_there : (r : List ℕ) → take c.node t ++ nodes_of (own_slot kind) part c.node c.condition r ≡ take (suc e.node) (set t₃ e.node word) ++ r
                unfolding word
                nodes_there r =
                    ap (λ l. take c.node t ++ l) (builds_it.nodes_are c.node c.condition a.node a.condition b.node b.condition e.node e.condition r
                    (omega (arith, A.read.wrote.node_is, n₁)) (omega (arith, A.read.wrote.condition_is, j₁)) (omega (arith, B.read.wrote.node_is, nv)) (omega (arith, B.read.wrote.condition_is, jv))
                    (omega (arith, C.read.wrote.node_is, n₃, ne)))
                    ∙ ap₂ (λ n j. take n t ++ nodes_of (a_slot kind) A.read.part n j (nodes_of (b_slot kind) B.read.part a.node a.condition (nodes_of (c_slot kind) C.read.part b.node b.condition (word ∷ r)))) (sym n₁) (sym j₁)
                    ∙ A.read.wrote.nodes_are _
                    ∙ ap₂ (λ n j. take n t₁ ++ nodes_of (b_slot kind) B.read.part n j (nodes_of (c_slot kind) C.read.part b.node b.condition (word ∷ r))) (sym nv) (sym jv)
                    ∙ B.read.wrote.nodes_are _
                    ∙ ap₂ (λ n j. take n t₂ ++ nodes_of (c_slot kind) C.read.part n j (word ∷ r)) (sym n₃) (sym j₃)
                    ∙ C.read.wrote.nodes_are _
                    ∙ ap (λ n. take n t₃ ++ (word ∷ r)) (sym ne)
                    ∙ take_store t₃ e.node word r (omega (arith, finishing.room, finishing.space))

                records_there : (r : List ℕ) → take c.condition k ++ choices_of (own_slot kind) part c.condition r ≡ take e.condition k₃ ++ r
                records_there r =
                    ap (λ l. take c.condition k ++ l) (builds_it.choices_are c.condition a.condition b.condition r (omega (arith, A.read.wrote.condition_is, j₁)) (omega (arith, B.read.wrote.condition_is, jv)))
                    ∙ ap (λ j. take j k ++ choices_of (a_slot kind) A.read.part j (choices_of (b_slot kind) B.read.part a.condition (choices_of (c_slot kind) C.read.part b.condition r))) (sym j₁)
                    ∙ A.read.wrote.records_are _
                    ∙ ap (λ j. take j k₁ ++ choices_of (b_slot kind) B.read.part j (choices_of (c_slot kind) C.read.part b.condition r)) (sym jv)
                    ∙ B.read.wrote.records_are _
                    ∙ ap (λ j. take j k₂ ++ choices_of (c_slot kind) C.read.part j r) (sym j₃)
                    ∙ C.read.wrote.records_are _
                    ∙ ap (λ j. take j k₃ ++ r) (sym je)

                wrote : Wrote (own_slot kind) part (before_lead c) next_node t (set t₃ e.node word) k k₃
                unfolding word
                wrote =
                    let q : suc e.node ≡ e.node + 1 = omega arith in
                    record {
                      nodes_opened = omega (
                        arith,
                        builds_it.size_is,
                        A.read.wrote.nodes_opened,
                        B.read.wrote.nodes_opened,
                        C.read.wrote.nodes_opened,
                        B₁.opened.nodes_opened,
                        V.opened.nodes_opened,
                        B₃.opened.nodes_opened,
                        D.opened.nodes_opened,
                        R.node_open,
                      );
                      records_opened = omega (
                        arith,
                        builds_it.records_are,
                        A.read.wrote.records_opened,
                        B.read.wrote.records_opened,
                        C.read.wrote.records_opened,
                        B₁.opened.records_opened,
                        V.opened.records_opened,
                        B₃.opened.records_opened,
                        D.opened.records_opened,
                      );
                      node_is = omega (arith, builds_it.size_is, A.read.wrote.node_is, B.read.wrote.node_is, C.read.wrote.node_is, n₁, nv, n₃, ne);
                      condition_is = omega (arith, builds_it.records_are, A.read.wrote.condition_is, B.read.wrote.condition_is, C.read.wrote.condition_is, j₁, jv, j₃, je);
                      nodes_are = λ s. nodes_there s ∙ ap (λ n. take n (set t₃ e.node word) ++ s) q;
                      records_are = records_there;
                    }

                pub filled : {r : Cursor} {t₄ : List ℕ} → Finishes kind v.value a b e t₃ t₄ r → ReadsFields text F kind value c (Ok r) t t₄ k k₃
                unfolding word
                filled {r} {t₄} W =
                    subst (λ r. ReadsFields text F kind value c (Ok r) t t₄ k k₃) (sym W.goes_on)
                    (subst (λ t₄. ReadsFields text F kind value c (Ok next_node) t t₄ k k₃) (sym W.writes)
                    (record {
                      read = record { part = part; way = goes; wrote = wrote };
                      same_nodes = length-set t₃ e.node word ∙ same_nodes;
                      same_records = same_records;
                    }))
