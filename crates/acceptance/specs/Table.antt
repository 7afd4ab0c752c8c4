-- "Checked by hand": cases (a) to (j) from the bytes of an image to what comes back of the calls, and with (o) to (q) every kind of node and condition, as one
-- table that the checker computes.
use Rattle.std.specs.Prelude.{◌≡◌, refl, List, [], ◌∷◌, ◌++◌, map, ℕ, ◌*◌, ℤ, pos, negsuc, length, drop, replicate}
use Rattle.std.specs.Prelude as Std
use Rattle.std.proofs.Common.{◌∙◌}
use Rattle.std.proofs.Math.Option.{some}
use Rattle.std.proofs.Math.ListN.{get_elem?}
use Rattle.sets.specs.declared.Set.{Set}
use Rattle.sets.specs.Member.{digit, bit}
use Rattle.imp.specs.Condition.{on_in, holds}
use Rattle.imp.specs.Configure as Imp
use Rattle.imp.specs.Configure.{configureᵃ}
use Rattle.imp.specs.Numbers.{low32, signed32, wrap}
use Rattle.imp.specs.State.{Numbers, outcome_number, code, live, in_fault, store, thrown, taken, ready, spent, enter, fresh, untouched}
use Rattle.imp.specs.Plain as Plainly
use Rattle.imp.specs.Plain.{value, handled, run}
use Rattle.imp.specs.Shared as Sharing
use Rattle.imp.specs.Shared.{value_in, any, for, visited, where_true, where_false, begun, turns, start, beyond}
use Rattle.image.specs.declared.refusals.Refusal.{Refusal}
use Rattle.image.specs.declared.accept.Shape.{Shape}
use Rattle.image.specs.Bytes.{Bytes, number_at, over}
use Rattle.image.specs.Check.{answer_of, shape_of}
use Rattle.image.specs.Records.{nodes_from, header, condition_record, node}
use Rattle.image.specs.Layout.{kinds, layout, names_node, is_choice, condition_kinds, condition_layout, field_fits}
use Rattle.image.specs.Rows.{Answer, refused, answer, judge, written, short, edition_wrong, counts_wrong, length_wrong, lowest, lowest_from, condition_fits, slot_fits, node_fits, class, slot_classed, classed, slot_names, node_names, names, named_wrong, check_rows}
use Rattle.image.specs.Sets.{settings, in_condition, condition_rows, set_answer}
use Rattle.image.specs.Tree.{condition_kind, condition_reading, condition_below, condition, kind_of, reading, read_below, read, routine}
use Rattle.image.specs.Term.{size, name, head_word, node_word, words, bytes_of, all_bytes, term_image}
use Rattle.image.specs.Encode.{termᵃ, termˢ, plain_image}
use Rattle.configure.specs.Configured.{configured, space_rows, configure_rows, Configures}
use Rattle.image.proofs.Theorem.RoutineH.{H}
use Rattle.configure.specs.Theorem.Vectors.{H-1}
use Rattle.plain.specs.declared.progress.Progress.{Progress}
use Rattle.plain.specs.PlainRun as Plain
use Rattle.plain.specs.PlainRun.{progress_of, lent_rows, plain_rows, hall_rows, RunsIn, Runs}
use Rattle.shared.specs.declared.Ends.{Ends}
use Rattle.shared.specs.Lent.{Tally, tally, part}
use Rattle.shared.specs.SharedRun as Shared
use Rattle.shared.specs.SharedRun.{each, numbers_of, tally_of, set_of, ends_of, exact, set_rows, shared_rows, SharedRuns}
use Rattle.acceptance.specs.Theorem.Images.{G, L, I, J, E, S}
use Rattle.acceptance.specs.Theorem.Calls.{Call, shared_run, plain_run, one_hall, configure, check, condition_set, Result, shared, plain, configuring, checking, asking, bits_of, comes_back, case, Case, Holds, Hold, row_of, shared_kept, plain_kept, hall_kept, configuring_kept, checking_kept, asking_kept}

-- ---- what is lent, and what is expected

-- "all numbers start at 0"
abbrev zeros : ℕ → List ℤ
zeros n = replicate (n * 16) (pos 0)

-- 9s in what a run has to write
abbrev nines : ℕ → Tally
nines n = tally (replicate n 9) (replicate n (pos 9)) (replicate n 9)

-- over n settings
abbrev shared_of : ℕ → Bytes → ℕ → ℕ → Call
shared_of n l set budget = shared_run l set budget (zeros n) (nines n)

abbrev plain_of : Bytes → ℕ → Call
plain_of l budget = plain_run l budget (zeros 1)

abbrev hall_of : Bytes → ℕ → ℕ → Call
hall_of l s budget = one_hall l s budget (zeros 1)

-- how a setting ends
pub record End : Type 0 where
  pub progress : Progress
  pub numbers : Numbers

abbrev three : ℕ → ℕ → ℕ → List ℤ
three a b c = pos a ∷ pos b ∷ pos c ∷ []

-- the outcome (0 idle, 1 done, 2 fault, 3 out), the code, the steps, and variables 0, 1 and 2; the others stay 0
abbrev end : ℕ → ℤ → ℕ → List ℤ → End
end o c n vs = record { progress = record { outcome = o; code = c; steps = n }; numbers = vs ++ replicate 13 (pos 0) }

-- done, and out, after n steps with variables 0, 1 and 2 as they say
abbrev ends_done : ℕ → ℕ → ℕ → ℕ → End
ends_done n x y z = end 1 (pos 0) n (three x y z)

abbrev ends_out : ℕ → ℕ → ℕ → ℕ → End
ends_out n x y z = end 3 (pos 0) n (three x y z)

abbrev alone : End → Result
alone e = plain (answer e.progress) e.numbers

abbrev stores : List End → List ℤ
stores [] = []
stores (e ∷ es) = e.numbers ++ stores es

-- the visits, the set in fault and the set out, and how each setting ends
abbrev together : ℕ → ℕ → ℕ → List End → Result
together visits fault out es =
    shared (answer (record { visits = visits; fault = record { bits = fault }; out = record { bits = out } })) (stores es)
    (tally (map (λ (e : End). e.progress.outcome) es) (map (λ (e : End). e.progress.code) es) (map (λ (e : End). e.progress.steps) es))

-- ---- the table

unfoldable pub table : List Case
table =
    -- (a)
    case (shared_of 2 H 3 100) (together 5 2 0 (end 1 (pos 0) 4 (three 310 0 0) ∷ end 2 (pos 7) 4 (three 380 0 0) ∷ []))
    ∷ case (plain_of (configured H 0) 100) (alone (end 1 (pos 0) 4 (three 310 0 0)))
    ∷ case (plain_of (configured H 1) 100) (alone (end 2 (pos 7) 4 (three 380 0 0)))
    -- (b)
    ∷ case (shared_of 2 H 3 3) (together 3 0 3 (end 3 (pos 0) 3 (three 310 0 0) ∷ end 3 (pos 0) 3 (three 380 0 0) ∷ []))
    ∷ case (plain_of (configured H 0) 3) (alone (end 3 (pos 0) 3 (three 310 0 0)))
    ∷ case (plain_of (configured H 1) 3) (alone (end 3 (pos 0) 3 (three 380 0 0)))
    -- (c): setting 0 is idle
    ∷ case (shared_of 2 H 2 100) (together 4 2 0 (end 0 (pos 0) 0 (three 0 0 0) ∷ end 2 (pos 7) 4 (three 380 0 0) ∷ []))
    -- (d): what was lent is as it was
    ∷ case (shared_of 2 H 4 100) (shared (refused 9 0) (zeros 2) (nines 2))
    -- (e)
    ∷ case (shared_of 2 H 3 0) (together 0 0 3 (end 3 (pos 0) 0 (three 0 0 0) ∷ end 3 (pos 0) 0 (three 0 0 0) ∷ []))
    ∷ case (plain_of (configured H 0) 0) (alone (end 3 (pos 0) 0 (three 0 0 0)))
    ∷ case (plain_of (configured H 1) 0) (alone (end 3 (pos 0) 0 (three 0 0 0)))
    -- (f): the bytes beyond stay 9, and the check of what is written answers 10 nodes
    ∷ case (configure H 1 (replicate 96 9)) (configuring (answer 88) ((0x01 ∷ 0x00 ∷ 0x00 ∷ 0x00 ∷ 0xA0 ∷ 0x00 ∷ 0x00 ∷ 0x00 ∷ drop 8 H-1) ++ replicate 8 9))
    ∷ case (check (configured H 1)) (checking (answer (record { options = 0; conditions = 0; nodes = 10 })))
    -- (g)
    ∷ case (shared_of 2 G 3 100) (together 4 0 0 (end 1 (pos 0) 2 (three 0 0 0) ∷ end 1 (pos 0) 3 (three 0 9 1) ∷ []))
    ∷ case (plain_of (configured G 0) 100) (alone (end 1 (pos 0) 2 (three 0 0 0)))
    ∷ case (plain_of (configured G 1) 100) (alone (end 1 (pos 0) 3 (three 0 9 1)))
    -- (h)
    ∷ case (shared_of 2 L 3 100) (together 5 0 0 (end 1 (pos 0) 3 (three 1 0 0) ∷ end 1 (pos 0) 5 (three 2 0 0) ∷ []))
    ∷ case (plain_of (configured L 0) 100) (alone (end 1 (pos 0) 3 (three 1 0 0)))
    ∷ case (plain_of (configured L 1) 100) (alone (end 1 (pos 0) 5 (three 2 0 0)))
    -- (i)
    ∷ case (shared_of 1 I 1 100) (together 1 0 0 (end 1 (pos 0) 1 (negsuc 2147483647 ∷ pos 0 ∷ pos 0 ∷ []) ∷ []))
    ∷ case (plain_of (configured I 0) 100) (alone (end 1 (pos 0) 1 (negsuc 2147483647 ∷ pos 0 ∷ pos 0 ∷ [])))
    -- (j)
    ∷ case (shared_of 1 J 1 100) (together 1 1 0 (end 2 (pos 0) 1 (three 0 0 0) ∷ []))
    ∷ case (plain_of (configured J 0) 100) (alone (end 2 (pos 0) 1 (three 0 0 0)))
    -- (o): one assignment for all; 3 + 20, -4 + 20, 3 + 10 and 5 + 20
    ∷ case (shared_of 4 E 15 100) (together 1 0 0 (ends_done 1 23 0 0 ∷ ends_done 1 16 0 0 ∷ ends_done 1 13 0 0 ∷ ends_done 1 25 0 0 ∷ []))
    ∷ case (plain_of (configured E 0) 100) (alone (ends_done 1 23 0 0))
    ∷ case (plain_of (configured E 1) 100) (alone (ends_done 1 16 0 0))
    ∷ case (plain_of (configured E 2) 100) (alone (ends_done 1 13 0 0))
    ∷ case (plain_of (configured E 3) 100) (alone (ends_done 1 25 0 0))
    -- (p): try, sequence, while, assign, while are begun for all; assign, while for 2 and 3; throw for 1 and 3; if for 0 and 2; skip for 0; throw for 2; in the
    -- handler throw for 3, assign for 1 and 2: 13 visits
    ∷ case (shared_of 4 S 15 100) (together 13 8 0 (ends_done 7 1 0 0 ∷ ends_done 7 1 1 1 ∷ ends_done 10 2 8 8 ∷ end 2 (pos 2) 9 (three 2 2 0) ∷ []))
    ∷ case (plain_of (configured S 0) 100) (alone (ends_done 7 1 0 0))
    ∷ case (plain_of (configured S 1) 100) (alone (ends_done 7 1 1 1))
    ∷ case (plain_of (configured S 2) 100) (alone (ends_done 10 2 8 8))
    ∷ case (plain_of (configured S 3) 100) (alone (end 2 (pos 2) 9 (three 2 2 0)))
    -- (p), budget 6: 2 and 3 are out in the while, 0 before skip, and 1 in the handler, with the fault in variable 1; throw and if are two more visits
    ∷ case (shared_of 4 S 15 6) (together 8 0 15 (ends_out 6 1 0 0 ∷ ends_out 6 1 1 0 ∷ ends_out 6 2 0 0 ∷ ends_out 6 2 0 0 ∷ []))
    ∷ case (plain_of (configured S 1) 6) (alone (ends_out 6 1 1 0))
    ∷ case (plain_of (configured S 3) 6) (alone (ends_out 6 2 0 0))
    -- (p), setting by setting: one hall (document 02, C-18)
    ∷ case (hall_of S 0 100) (alone (ends_done 7 1 0 0))
    ∷ case (hall_of S 1 100) (alone (ends_done 7 1 1 1))
    ∷ case (hall_of S 2 100) (alone (ends_done 10 2 8 8))
    ∷ case (hall_of S 3 100) (alone (end 2 (pos 2) 9 (three 2 2 0)))
    ∷ case (hall_of S 3 6) (alone (ends_out 6 2 0 0))
    -- everything wrong at once: 11 before 10 before 12, and the numbers are as they were
    ∷ case (one_hall S 4 100001 []) (plain (refused 11 0) [])
    ∷ case (one_hall S 3 100001 []) (plain (refused 10 0) [])
    ∷ case (one_hall S 3 100000 []) (plain (refused 12 0) [])
    -- (q): the sets of (o)'s conditions, setting s with weight 2^s, and a condition that is not there
    ∷ case (condition_set E 0) (asking (answer 10))
    ∷ case (condition_set E 1) (asking (answer 12))
    ∷ case (condition_set E 2) (asking (answer 8))
    ∷ case (condition_set E 3) (asking (answer 14))
    ∷ case (condition_set E 4) (asking (answer 5))
    ∷ case (condition_set E 5) (asking (answer 0))
    ∷ case (condition_set E 6) (asking (answer 15))
    ∷ case (condition_set E 7) (asking (refused 15 0))
    ∷ []

-- opens all that a call computes with
opened : Unit {0}
unfolding digit bit on_in holds Imp.configure configureᵃ low32 signed32 wrap outcome_number code live in_fault store thrown taken ready spent enter fresh untouched
    value Plainly.begun Plainly.turns handled run Plainly.plain_run value_in any for visited where_true where_false begun turns Sharing.shared start Sharing.shared_run beyond
    number_at nodes_from header condition_record node kinds layout names_node is_choice condition_kinds condition_layout field_fits
    judge written short edition_wrong counts_wrong length_wrong lowest lowest_from condition_fits slot_fits node_fits class slot_classed classed slot_names node_names names named_wrong check_rows
    settings condition_kind condition_reading condition_below condition kind_of reading read_below read routine size name node_word words bytes_of all_bytes head_word term_image termᵃ termˢ plain_image
    configured space_rows configure_rows over Plain.meant_in progress_of lent_rows plain_rows hall_rows part Shared.meant each numbers_of tally_of set_of ends_of exact set_rows shared_rows
    shape_of in_condition condition_rows G L I J E S comes_back table
opened = tt

pub checked : Hold table
unfolding opened
checked = refl

-- ---- each row

-- row k of the table is c: what comes back of its call is its result
pub row : (k : ℕ) (c : Case) → get_elem? table k ≡ some c → Holds c
row = row_of table checked

-- ---- whatever keeps the promise of a row's call is what the row says

module _ (k : ℕ) where
  pub shared_row : {l : Bytes} {set budget : ℕ} {xs xs' ys : List ℤ} {T T' U : Tally} {r : Std.Result Ends Refusal} {a : Answer Ends}
      → get_elem? table k ≡ some (case (shared_run l set budget xs T) (shared a ys U))
      → SharedRuns (shared_rows l set budget xs T) l set budget xs T xs' T' r → (answer_of r ≡ a) × (xs' ≡ ys) × (T' ≡ U)
  shared_row {xs' = xs'} {ys = ys} {T' = T'} {U = U} {r = r} {a = a} at ran =
      let same : shared (answer_of r) xs' T' ≡ shared a ys U = shared_kept ran ∙ row k _ at in
      (cc, cc, cc)

  pub plain_row : {l : Bytes} {budget : ℕ} {ns ns' ms : Numbers} {r : Std.Result Progress Refusal} {a : Answer Progress}
      → get_elem? table k ≡ some (case (plain_run l budget ns) (plain a ms))
      → Runs (plain_rows l budget (length ns)) l budget ns ns' r → (answer_of r ≡ a) × (ns' ≡ ms)
  plain_row {ns' = ns'} {ms = ms} {r = r} {a = a} at ran =
      let same : plain (answer_of r) ns' ≡ plain a ms = plain_kept ran ∙ row k _ at in
      (cc, cc)

  pub hall_row : {l : Bytes} {s budget : ℕ} {ns ns' ms : Numbers} {r : Std.Result Progress Refusal} {a : Answer Progress}
      → get_elem? table k ≡ some (case (one_hall l s budget ns) (plain a ms))
      → RunsIn s (hall_rows l s budget (length ns)) l budget ns ns' r → (answer_of r ≡ a) × (ns' ≡ ms)
  hall_row {ns' = ns'} {ms = ms} {r = r} {a = a} at ran =
      let same : plain (answer_of r) ns' ≡ plain a ms = hall_kept ran ∙ row k _ at in
      (cc, cc)

  pub configuring_row : {l : Bytes} {s : ℕ} {out out' m : Bytes} {r : Std.Result ℕ Refusal} {a : Answer ℕ}
      → get_elem? table k ≡ some (case (configure l s out) (configuring a m))
      → Configures (configure_rows l s (length out)) l s out out' r → (answer_of r ≡ a) × (out' ≡ m)
  configuring_row {out' = out'} {m = m} {r = r} {a = a} at wrote =
      let same : configuring (answer_of r) out' ≡ configuring a m = configuring_kept wrote ∙ row k _ at in
      (cc, cc)

  pub checking_row : (l : Bytes) (r : Std.Result Shape Refusal) {a : Answer Shape}
      → get_elem? table k ≡ some (case (check l) (checking a)) → answer_of r ≡ judge (check_rows l) (shape_of l) → answer_of r ≡ a
  checking_row l r {a = a} at answered =
      let same : checking (answer_of r) ≡ checking a = checking_kept l r answered ∙ row k _ at in
      cc

  pub asking_row : (l : Bytes) (n : ℕ) (r : Std.Result Set Refusal) {a : Answer ℕ}
      → get_elem? table k ≡ some (case (condition_set l n) (asking a)) → set_answer r ≡ judge (condition_rows l n) (in_condition l n)
      → bits_of (set_answer r) ≡ a
  asking_row l n r {a = a} at answered =
      let same : asking (bits_of (set_answer r)) ≡ asking a = asking_kept l n r answered ∙ row k _ at in
      cc
