-- Document 01's routine H in one setting, from the input's bytes to the whole text, and refusals.
use Rattle.std.specs.Prelude.{◌≡◌, refl, [], ◌∷◌, ℕ}
use Rattle.sets.specs.Member.{bit, digit}
use Rattle.imp.specs.Condition.{holds, on_in}
use Rattle.imp.specs.Configure.{configureᵃ, configure}
use Rattle.imp.specs.Numbers.{signed32}
use Rattle.imp.specs.State.{outcome_number, code, live, store, thrown, ready, spent, enter, fresh}
use Rattle.imp.specs.Plain.{value, begun, run, plain_run}
use Rattle.image.specs.Bytes.{Bytes, number_at}
use Rattle.image.specs.Records.{nodes_from, header, condition_record, node}
use Rattle.image.specs.Layout.{kinds, layout, names_node, condition_kinds, condition_layout, field_fits}
use Rattle.image.specs.Rows.{judge, short, edition_wrong, counts_wrong, length_wrong, lowest, lowest_from, condition_fits, slot_fits, node_fits, class, slot_classed, classed, slot_names, node_names, names, named_wrong, check_rows}
use Rattle.image.specs.Sets.{settings}
use Rattle.image.proofs.Theorem.RoutineH.{H}
use Rattle.image.specs.Tree.{condition_kind, condition_reading, condition, kind_of, reading, read_below, read, routine}
use Rattle.plain.specs.PlainRun.{meant_in, progress_of, lent_rows, hall_rows}
use Rattle.text.specs.Decimal.{digits, decimal, signed_decimal}
use Rattle.lines.specs.Words.{outcome_words, word, field}
use Rattle.lines.specs.Text.{line, refusal_line, zeros}
use Rattle.hall.specs.Text.{variable_line, variable_lines, run_of, told, text}

-- a setting and a budget below 256, then the image
abbrev input : ℕ → ℕ → Bytes → Bytes
input setting budget l = 0 ∷ 0 ∷ 0 ∷ 0 ∷ 0 ∷ 0 ∷ 0 ∷ setting ∷ 0 ∷ 0 ∷ 0 ∷ budget ∷ l

-- opens all that a text computes with
opened : Unit {0}
unfolding text told run_of variable_lines variable_line line refusal_line zeros decimal digits signed_decimal outcome_words word field judge check_rows
    lent_rows hall_rows short edition_wrong counts_wrong length_wrong lowest lowest_from condition_fits condition_layout field_fits slot_fits node_fits class
    slot_classed classed slot_names node_names names named_wrong layout kinds names_node node number_at nodes_from header condition_record condition_kinds
    settings routine read reading kind_of read_below condition signed32 condition_reading condition_kind bit digit holds on_in configureᵃ configure
    outcome_number code live store thrown ready spent enter fresh value begun run plain_run meant_in progress_of
opened = tt

-- H in setting 1 with budget 100: 1 fault 7 4, and v0 380
pub in_fault : text (input 1 100 H)
    ≡ 49 ∷ 32 ∷ 102 ∷ 97 ∷ 117 ∷ 108 ∷ 116 ∷ 32 ∷ 55 ∷ 32 ∷ 52 ∷ 10
    ∷ 118 ∷ 48 ∷ 32 ∷ 51 ∷ 56 ∷ 48 ∷ 10
    ∷ 118 ∷ 49 ∷ 32 ∷ 48 ∷ 10
    ∷ 118 ∷ 50 ∷ 32 ∷ 48 ∷ 10
    ∷ 118 ∷ 51 ∷ 32 ∷ 48 ∷ 10
    ∷ 118 ∷ 52 ∷ 32 ∷ 48 ∷ 10
    ∷ 118 ∷ 53 ∷ 32 ∷ 48 ∷ 10
    ∷ 118 ∷ 54 ∷ 32 ∷ 48 ∷ 10
    ∷ 118 ∷ 55 ∷ 32 ∷ 48 ∷ 10
    ∷ 118 ∷ 56 ∷ 32 ∷ 48 ∷ 10
    ∷ 118 ∷ 57 ∷ 32 ∷ 48 ∷ 10
    ∷ 118 ∷ 49 ∷ 48 ∷ 32 ∷ 48 ∷ 10
    ∷ 118 ∷ 49 ∷ 49 ∷ 32 ∷ 48 ∷ 10
    ∷ 118 ∷ 49 ∷ 50 ∷ 32 ∷ 48 ∷ 10
    ∷ 118 ∷ 49 ∷ 51 ∷ 32 ∷ 48 ∷ 10
    ∷ 118 ∷ 49 ∷ 52 ∷ 32 ∷ 48 ∷ 10
    ∷ 118 ∷ 49 ∷ 53 ∷ 32 ∷ 48 ∷ 10
    ∷ []
unfolding opened
in_fault = refl

-- setting 2 of 2: refused 11 at 0
pub beyond : text (input 2 100 H) ≡ 114 ∷ 101 ∷ 102 ∷ 117 ∷ 115 ∷ 101 ∷ 100 ∷ 32 ∷ 49 ∷ 49 ∷ 32 ∷ 97 ∷ 116 ∷ 32 ∷ 48 ∷ 10 ∷ []
unfolding opened
beyond = refl

-- an input of no bytes: refused 16 at 0
pub too_short : text [] ≡ 114 ∷ 101 ∷ 102 ∷ 117 ∷ 115 ∷ 101 ∷ 100 ∷ 32 ∷ 49 ∷ 54 ∷ 32 ∷ 97 ∷ 116 ∷ 32 ∷ 48 ∷ 10 ∷ []
unfolding opened
too_short = refl
