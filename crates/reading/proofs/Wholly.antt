-- The whole text: what is read is what the machine answers.
use mathlib.Core.Path.{◌≡◌, refl, sym, ◌∙◌, ap, ap₂, subst}
use Prim.Native.Nat.{ℕ}
use mathlib.Core.Bool.{false}
use mathlib.Core.List.{List, [], ◌∷◌, ◌++◌, append-nil}
use native.Mathlib.Omega.{arith}
use lib.ListN.{length, take}
use Rattle.imp.specs.Condition.{Condition}
use Rattle.imp.specs.Routine.{Statement}
use Rattle.std.specs.Prelude.{Ok, Err}
use Rattle.image.specs.declared.refusals.Refusal.{Refusal}
use Rattle.image.specs.Bytes.{Bytes}
use Rattle.written.specs.Word.{OPTIONS}
use Rattle.written.specs.Machine.{counts, statements, Reading, Stack, done, mark, want, Log, start}
use Rattle.written.specs.Image.{choicesˢ, nodesˢ}
use Rattle.written.specs.Limits.{NODES, RECORDS}
use Rattle.written.specs.Answer.{answer}
use Rattle.written.proofs.Theorem.From.{from_start}
use Rattle.reading.specs.declared.cursor.Cursor.{Cursor}
use Rattle.reading.specs.declared.number.Number.{Number}
use Rattle.reading.specs.Inner.Way.{nodes_in, records_in, Logged, Says, Good, Way, Refuses}
use Rattle.reading.specs.Inner.Token.{fixed_to}
use Rattle.reading.specs.Inner.Parts.{of_statement, slot_of}
use Rattle.reading.specs.Inner.Node.{PartReady, Wrote, ReadsPart}
use Rattle.reading.specs.Inner.Whole.{CountWay, EndWay, ReadsWhole}
use Rattle.reading.proofs.Tokens.{nothing_read}
use Rattle.reading.proofs.Marking.{Fixed, fixed_way}
use Rattle.reading.proofs.Ways.{then, then_refused}

-- before the first byte
abbrev pub at_start : Cursor
at_start = record { at = 0; tight = false; nodes = 0; records = 0; node = 0; condition = 0 }

pub start_good : (text : Bytes) → Good text at_start
start_good text = record { inside = omega arith; few_nodes = omega arith; few_records = omega arith }

none_yet : Log
none_yet = record { at = 0; spots = [] }

start_logged : Logged at_start none_yet
unfolding none_yet nodes_in records_in
start_logged = record { at_is = refl; nodes_are = refl; records_are = refl }

-- what is still to come there
abbrev reading : ℕ → Statement Condition → Reading
reading F t = record { options = F; tree = t }

abbrev all_to_come : Stack
all_to_come = mark OPTIONS (want 0 counts λ F. want F statements λ t. done (reading F t))

-- what is refused there is what the text is refused for
says : (text : Bytes) (e : Refusal) → Refuses text at_start all_to_come e → Says e (answer text)
unfolding start none_yet
says text e h = subst (Says e) (sym (from_start text)) (h.says none_yet start_logged)

module _ (text : Bytes) (nodes records : List ℕ) (n : length nodes ≡ NODES) (r : length records ≡ RECORDS) where
  pub no_options : (e : Refusal) → Err e ≡ fixed_to text at_start (OPTIONS.head ∷ OPTIONS.rest) → ReadsWhole text nodes records (Err e)
  no_options e h =
      record { read = says text e (fixed_way text at_start (start_good text) OPTIONS (Err e) h (want 0 counts λ F. want F statements λ t. done (reading F t))); node_space = n; record_space = r }

  module _ (c : Cursor) (h : Ok c ≡ fixed_to text at_start (OPTIONS.head ∷ OPTIONS.rest)) where
    O : Fixed text at_start OPTIONS c
    O = fixed_way text at_start (start_good text) OPTIONS (Ok c) h

    pub options_good : Good text c
    options_good = (O.way (done nothing_read)).good

    to_count : Way text at_start c all_to_come (want 0 counts λ F. want F statements λ t. done (reading F t))
    to_count = O.way (want 0 counts λ F. want F statements λ t. done (reading F t))

    pub no_count : (e : Refusal) → CountWay text c (Err e) → ReadsWhole text nodes records (Err e)
    no_count e f = record { read = says text e (then_refused e to_count (f (λ F. want F statements λ t. done (reading F t)))); node_space = n; record_space = r }

    module _ (f : Number) (C : CountWay text c (Ok f)) where
      pub part_ready : PartReady text f.value f.cursor nodes records
      part_ready = record {
        good = (C.way (λ i. done nothing_read)).good;
        options_few = C.small;
        node_space = n;
        record_space = r;
        nodes_few = omega (arith, C.opened.kept.node_kept, O.opened.kept.node_kept);
        conditions_few = omega (arith, C.opened.kept.condition_kept, O.opened.kept.condition_kept);
      }

      to_part : Way text at_start f.cursor all_to_come (want f.value statements λ t. done (reading f.value t))
      to_part = then to_count (C.way (λ F. want F statements λ t. done (reading F t)))

      pub no_part : (e : Refusal) (nodes' records' : List ℕ) → ReadsPart text f.value (slot_of 3) f.cursor (Err e) nodes nodes' records records' → ReadsWhole text nodes' records' (Err e)
      unfolding slot_of
      no_part e nodes' records' P = record {
        read = says text e (then_refused e to_part (P.read (λ p. done (reading f.value p.statement))));
        node_space = P.same_nodes ∙ n;
        record_space = P.same_records ∙ r;
      }

      module _ (d : Cursor) (nodes' records' : List ℕ) (P : ReadsPart text f.value (slot_of 3) f.cursor (Ok d) nodes nodes' records records') where
        pub part_good : Good text d
        part_good = (P.read.way (λ i. done nothing_read)).good

        tree : Statement Condition
        tree = P.read.part.statement

        to_end : Way text at_start d all_to_come (done (reading f.value tree))
        unfolding slot_of tree
        to_end = then to_part (P.read.way (λ p. done (reading f.value p.statement)))

        pub no_end : (e : Refusal) → EndWay text d (Err e) → ReadsWhole text nodes' records' (Err e)
        no_end e E = record { read = says text e (then_refused e to_end (E (reading f.value tree))); node_space = P.same_nodes ∙ n; record_space = P.same_records ∙ r }

        wrote : Wrote of_statement P.read.part f.cursor d nodes nodes' records records'
        unfolding slot_of
        wrote = P.read.wrote

        first_node : f.cursor.node ≡ 0
        first_node = C.opened.kept.node_kept ∙ O.opened.kept.node_kept

        first_condition : f.cursor.condition ≡ 0
        first_condition = C.opened.kept.condition_kept ∙ O.opened.kept.condition_kept

        no_nodes : f.cursor.nodes ≡ 0
        no_nodes = omega (arith, C.opened.nodes_opened, O.opened.nodes_opened)

        no_records : f.cursor.records ≡ 0
        no_records = omega (arith, C.opened.records_opened, O.opened.records_opened)

        pub whole_read : {u : Unit {0}} → EndWay text d (Ok u) → ReadsWhole text nodes' records' (Ok (record { cursor = d; value = f.value }))
        unfolding tree none_yet start
        whole_read E =
            let x = to_end.goes none_yet start_logged in
            let y = E x.0 (reading f.value tree) x.1 in
            record {
              read = record {
                tree = tree;
                read_is = (y.0, from_start text ∙ x.2 ∙ y.1);
                options_few = C.small;
                nodes_few = (omega (arith, wrote.node_is, first_node), omega (arith, wrote.node_is, wrote.nodes_opened, first_node, no_nodes, part_good.few_nodes));
                records_few = (omega (arith, wrote.condition_is, first_condition), omega (arith, wrote.condition_is, wrote.records_opened, first_condition, no_records, part_good.few_records));
                nodes_are = sym (append-nil (take d.node nodes')) ∙ sym (wrote.nodes_are []) ∙ ap₂ (λ i j. take i nodes ++ nodesˢ P.read.part.statement i j []) first_node first_condition;
                records_are = sym (append-nil (take d.condition records')) ∙ sym (wrote.records_are []) ∙ ap (λ j. take j records ++ choicesˢ P.read.part.statement j []) first_condition;
              };
              node_space = P.same_nodes ∙ n;
              record_space = P.same_records ∙ r;
            }
