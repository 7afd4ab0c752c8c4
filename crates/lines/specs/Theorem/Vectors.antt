-- Document 01's listing, to the byte, and refusals of each kind.
use Rattle.std.specs.Prelude.{◌≡◌, refl, [], ◌∷◌, ℕ, negsuc}
use Rattle.sets.specs.Member.{bit, digit, members}
use Rattle.imp.specs.Condition.{holds, on_in}
use Rattle.imp.specs.Numbers.{signed32}
use Rattle.imp.specs.State.{outcome_number, code, live, store, thrown, ready, spent, enter, fresh, untouched}
use Rattle.imp.specs.Shared.{value_in, truth_in, any, for, visited, where_true, where_false, begun, shared, start, shared_run, beyond}
use Rattle.image.specs.Bytes.{Bytes, number_at}
use Rattle.image.specs.Records.{nodes_from, header, condition_record, node}
use Rattle.image.specs.Layout.{kinds, layout, names_node, condition_kinds, condition_layout, field_fits}
use Rattle.image.specs.Rows.{judge, short, edition_wrong, counts_wrong, length_wrong, lowest, lowest_from, condition_fits, slot_fits, node_fits, class, slot_classed, classed, slot_names, node_names, names, named_wrong, check_rows}
use Rattle.image.specs.Sets.{settings}
use Rattle.image.proofs.Theorem.RoutineH.{H}
use Rattle.image.specs.Tree.{condition_kind, condition_reading, condition, kind_of, reading, read_below, read, routine}
use Rattle.plain.specs.PlainRun.{progress_of}
use Rattle.shared.specs.Lent.{part}
use Rattle.shared.specs.SharedRun.{meant, set_of, ends_of, exact, set_rows, shared_rows}
use Rattle.text.specs.Decimal.{digits, decimal, signed_decimal}
use Rattle.lines.specs.Words.{outcome_words, word, field}
use Rattle.lines.specs.Text.{line, lines, last_line, refusal_line, zeros, blank, run_of, run_rows, report_rows, told, text}

-- a set and a budget below 256, then the image
abbrev input : ℕ → ℕ → Bytes → Bytes
input set budget l = 0 ∷ 0 ∷ 0 ∷ 0 ∷ 0 ∷ 0 ∷ 0 ∷ set ∷ 0 ∷ 0 ∷ 0 ∷ budget ∷ l

-- opens all that a text computes with
opened : Unit {0}
unfolding text told report_rows run_rows run_of lines line last_line zeros blank decimal digits signed_decimal outcome_words word field refusal_line judge check_rows short
    edition_wrong counts_wrong length_wrong lowest lowest_from condition_fits condition_layout field_fits slot_fits node_fits class slot_classed classed
    slot_names node_names names named_wrong layout kinds names_node node number_at nodes_from header condition_record condition_kinds settings routine read
    reading kind_of read_below condition signed32 condition_reading condition_kind bit digit members holds on_in outcome_number code live store thrown ready
    spent enter fresh untouched value_in truth_in any for visited where_true where_false begun shared start shared_run beyond progress_of part meant set_of
    ends_of exact set_rows shared_rows
opened = tt

-- "For set 3, budget 100 it prints": 0 done 0 4, 1 fault 7 4, visits 5 faults 1 out 0
pub listing : text (input 3 100 H)
    ≡ 48 ∷ 32 ∷ 100 ∷ 111 ∷ 110 ∷ 101 ∷ 32 ∷ 48 ∷ 32 ∷ 52 ∷ 10
    ∷ 49 ∷ 32 ∷ 102 ∷ 97 ∷ 117 ∷ 108 ∷ 116 ∷ 32 ∷ 55 ∷ 32 ∷ 52 ∷ 10
    ∷ 118 ∷ 105 ∷ 115 ∷ 105 ∷ 116 ∷ 115 ∷ 32 ∷ 53 ∷ 32 ∷ 102 ∷ 97 ∷ 117 ∷ 108 ∷ 116 ∷ 115 ∷ 32 ∷ 49 ∷ 32 ∷ 111 ∷ 117 ∷ 116 ∷ 32 ∷ 48 ∷ 10
    ∷ []
unfolding opened
listing = refl

-- (d), "H, set 4: refused 9": refused 9 at 0
pub beyond_set : text (input 4 100 H) ≡ 114 ∷ 101 ∷ 102 ∷ 117 ∷ 115 ∷ 101 ∷ 100 ∷ 32 ∷ 57 ∷ 32 ∷ 97 ∷ 116 ∷ 32 ∷ 48 ∷ 10 ∷ []
unfolding opened
beyond_set = refl

-- an input of no bytes: refused 16 at 0
pub too_short : text [] ≡ 114 ∷ 101 ∷ 102 ∷ 117 ∷ 115 ∷ 101 ∷ 100 ∷ 32 ∷ 49 ∷ 54 ∷ 32 ∷ 97 ∷ 116 ∷ 32 ∷ 48 ∷ 10 ∷ []
unfolding opened
too_short = refl

-- the least number of 32 bits: -2147483648
pub least : signed_decimal (negsuc 2147483647) ≡ 45 ∷ 50 ∷ 49 ∷ 52 ∷ 55 ∷ 52 ∷ 56 ∷ 51 ∷ 54 ∷ 52 ∷ 56 ∷ []
unfolding opened
least = refl
