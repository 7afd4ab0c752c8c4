-- Document 01's bytes, computed: routine H is the tree of the hand table, and case (f) to the byte.
use Rattle.std.specs.Prelude.{◌≡◌, refl, [], ◌∷◌, ℕ}
use Rattle.std.proofs.Common.{◌∙◌, ap}
use Rattle.sets.specs.Member.{bit, digit}
use Rattle.imp.specs.Condition.{holds, on_in}
use Rattle.imp.specs.Configure.{configureᵃ, configureᵇ, configure}
use Rattle.imp.specs.Numbers.{low32, signed32}
use Rattle.imp.proofs.Theorem.Table as table
use Rattle.image.specs.Bytes.{Bytes, number_at}
use Rattle.image.specs.Records.{nodes_from, header, condition_record, node}
use Rattle.image.specs.Layout.{kinds, layout, names_node, condition_kinds, condition_layout, field_fits}
use Rattle.image.specs.Rows.{answer, judge, short, edition_wrong, counts_wrong, length_wrong, lowest, lowest_from, condition_fits, slot_fits, node_fits, class, slot_classed, classed, slot_names, node_names, names, named_wrong, check_rows}
use Rattle.image.specs.Tree.{condition_kind, condition_reading, condition, kind_of, reading, read_below, read, routine}
use Rattle.image.specs.Term.{size, name, head_word, node_word, words, bytes_of, all_bytes, term_image}
use Rattle.image.specs.Encode.{termᵃ, termˢ, plain_image}
use Rattle.image.proofs.Theorem.RoutineH.{H}
use Rattle.configure.specs.Configured.{configured}

-- "H configured for setting 1: 10 nodes, 88 bytes, header 01 00 00 00 A0 00 00 00."
abbrev pub H-1 : Bytes
H-1 =
    1 ∷ 0 ∷ 0 ∷ 0 ∷ 160 ∷ 0 ∷ 0 ∷ 0
    ∷ 0 ∷ 0 ∷ 0 ∷ 0 ∷ 0 ∷ 0 ∷ 1 ∷ 124
    ∷ 68 ∷ 0 ∷ 0 ∷ 0 ∷ 0 ∷ 0 ∷ 0 ∷ 0
    ∷ 0 ∷ 0 ∷ 0 ∷ 0 ∷ 0 ∷ 0 ∷ 1 ∷ 94
    ∷ 4 ∷ 0 ∷ 0 ∷ 0 ∷ 0 ∷ 0 ∷ 0 ∷ 0
    ∷ 48 ∷ 0 ∷ 2 ∷ 0 ∷ 48 ∷ 0 ∷ 0 ∷ 0
    ∷ 0 ∷ 0 ∷ 0 ∷ 0 ∷ 0 ∷ 0 ∷ 0 ∷ 7
    ∷ 84 ∷ 0 ∷ 5 ∷ 0 ∷ 0 ∷ 0 ∷ 0 ∷ 0
    ∷ 64 ∷ 0 ∷ 0 ∷ 0 ∷ 0 ∷ 0 ∷ 0 ∷ 0
    ∷ 76 ∷ 0 ∷ 4 ∷ 0 ∷ 96 ∷ 7 ∷ 0 ∷ 0
    ∷ 72 ∷ 0 ∷ 1 ∷ 0 ∷ 128 ∷ 0 ∷ 0 ∷ 0
    ∷ []

pub passes : judge {A = ℕ} (check_rows H) 0 ≡ answer 0
unfolding judge check_rows short edition_wrong counts_wrong length_wrong lowest lowest_from condition_fits condition_layout field_fits slot_fits node_fits class slot_classed classed slot_names node_names names named_wrong layout kinds names_node node number_at nodes_from header condition_record condition_kinds
passes = refl

pub is_h : routine H ≡ table.H
unfolding table.H routine read reading kind_of node number_at nodes_from header read_below condition signed32 condition_reading condition_kind condition_record
is_h = refl

pub case_f : configured H 1 ≡ H-1
unfolding table.H configured configure configureᵃ configureᵇ holds on_in low32 plain_image term_image all_bytes bytes_of head_word node_word name words size termᵃ termˢ bit digit
case_f = ap (λ t. plain_image (configure 1 t)) is_h ∙ refl
