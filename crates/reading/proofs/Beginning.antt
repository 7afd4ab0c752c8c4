-- A part: the token that it begins with, and then the node's own parts.
use mathlib.Core.Path.{sym, ◌∙◌, ap, ap₂, subst}
use Prim.Native.Nat.{ℕ, ◌<◌}
use mathlib.Core.List.{List, ◌++◌}
use native.Mathlib.Omega.{arith}
use lib.ListN.{take}
use Rattle.image.specs.declared.kinds.Kind.{Kind}
use Rattle.image.specs.Kinds.{kind_number}
use Rattle.std.specs.Prelude.{Result, Ok, Err}
use Rattle.image.specs.declared.refusals.Refusal.{Refusal}
use Rattle.image.specs.Bytes.{Bytes}
use Rattle.written.specs.Machine.{Stack, done}
use Rattle.reading.specs.declared.cursor.Cursor.{Cursor}
use Rattle.reading.specs.declared.lead.Lead.{Lead}
use Rattle.reading.specs.Inner.Parts.{Part, slot_of}
use Rattle.reading.specs.Inner.Lead.{LeadFrom}
use Rattle.reading.specs.Inner.Node.{nodes_of, choices_of, before_lead, PartReady, Wrote, ReadsPart, FieldsReady, ReadsFields}
use Rattle.reading.proofs.Tokens.{nothing_read}
use Rattle.reading.proofs.Ways.{then, then_refused}

module _ (text : Bytes) (F class : ℕ) (c : Cursor) (t k : List ℕ) (R : PartReady text F c t k) where
  module _ (L : Lead Kind) (h : LeadFrom text class c (Ok L)) where
    any_part : Part → Stack
    any_part p = done nothing_read

    pub fields_ready : 0 < class → FieldsReady text F (kind_number L.kind) L.value L.cursor t k
    fields_ready o = record {
      ready = record {
        good = (h.way F any_part).good;
        options_few = R.options_few;
        node_space = R.node_space;
        record_space = R.record_space;
        nodes_few = omega (arith, h.opened.kept.node_kept, h.opened.nodes_opened, R.nodes_few);
        conditions_few = omega (arith, h.opened.kept.condition_kept, h.opened.records_opened, R.conditions_few);
      };
      node_open = omega (arith, h.opened.kept.node_kept, h.opened.nodes_opened, R.nodes_few);
      known = subst (λ i. 0 < i) (sym h.own) o;
      value_small = h.small;
      variable_small = h.variable_small;
    }

    pub part_filled : (r : Result Cursor Refusal) (t' k' : List ℕ) → ReadsFields text F (kind_number L.kind) L.value L.cursor r t t' k k' → ReadsPart text F (slot_of class) c r t t' k k'
    part_filled (Ok r) t' k' p = record {
      read = record {
        part = p.read.part;
        way = λ g. then (h.way F g) (p.read.way g);
        wrote = let w = subst (λ s. Wrote s p.read.part (before_lead L.cursor) r t t' k k') (ap slot_of h.own) p.read.wrote in
            record {
              nodes_opened = omega (arith, w.nodes_opened, h.opened.nodes_opened);
              records_opened = omega (arith, w.records_opened, h.opened.records_opened);
              node_is = omega (arith, w.node_is, h.opened.kept.node_kept);
              condition_is = omega (arith, w.condition_is, h.opened.kept.condition_kept);
              nodes_are = λ s. ap₂ (λ n j. take n t ++ nodes_of (slot_of class) p.read.part n j s) (sym h.opened.kept.node_kept) (sym h.opened.kept.condition_kept) ∙ w.nodes_are s;
              records_are = λ s. ap (λ j. take j k ++ choices_of (slot_of class) p.read.part j s) (sym h.opened.kept.condition_kept) ∙ w.records_are s;
            };
      };
      same_nodes = p.same_nodes;
      same_records = p.same_records;
    }
    part_filled (Err e) t' k' p = record { read = λ g. then_refused e (h.way F g) (p.read g); same_nodes = p.same_nodes; same_records = p.same_records }
