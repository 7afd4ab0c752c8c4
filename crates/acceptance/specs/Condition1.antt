-- Condition 1: "Every image, set, budget and buffer length gets an answer; no call relies on an earlier check; a refusal has its number and place and
-- changes nothing." Of each of the nine calls, for every input and whatever keeps the call's promise.
use Rattle.std.specs.Prelude.{◌≡◌, refl, List, [], ◌∷◌, ◌++◌, ◌↔◌, ◌⊎◌, ℕ, ◌^◌, ◌≤◌, ◌<◌, ℤ, length, Result, Ok, Err}
use Rattle.sets.specs.declared.Set.{Set}
use Rattle.imp.specs.Condition.{Condition}
use Rattle.imp.specs.Routine.{Statement}
use Rattle.imp.specs.State.{Numbers}
use Rattle.imp.specs.Shared.{Shared}
use Rattle.image.specs.declared.refusals.Refusal.{Refusal}
use Rattle.image.specs.declared.accept.Shape.{Shape}
use Rattle.image.specs.Bytes.{Bytes, over}
use Rattle.image.specs.Check.{answer_of, shape_of}
use Rattle.image.specs.Rows.{Row, Answer, refused, answer, judge, written, check_rows, NoneFails, Given, numbers, then}
use Rattle.image.specs.Sets.{settings, in_condition, condition_rows, set_answer}
use Rattle.written.specs.Grammar.{Refused17}
use Rattle.written.specs.Limits.{Refused18}
use Rattle.written.specs.Image.{written_image}
use Rattle.written.specs.Told.{Holds, Told}
use Rattle.written.proofs.Theorem.ToldOne.{told_some}
use Rattle.reading.specs.Reads.{ReadsText}
use Rattle.listing.specs.Lists.{list_rows, Lists}
use Rattle.configure.specs.Configured.{configure_rows, Configures}
use Rattle.plain.specs.declared.progress.Progress.{Progress}
use Rattle.plain.specs.PlainRun.{plain_rows, hall_rows, RunsIn, Runs}
use Rattle.shared.specs.declared.Ends.{Ends}
use Rattle.shared.specs.Lent.{Tally}
use Rattle.shared.specs.SharedRun.{ends_of, shared_rows, SharedRuns}
use Rattle.lines.specs.declared.answer.Short.{Short}
use Rattle.lines.specs.Report.{Reports}
use Rattle.lines.specs.Text.{lines, last_line, refusal_line, set_in, budget_in, image_in, run_of, report_rows, text}
use Rattle.acceptance.specs.Theorem.ByTable.{refusal_is, carried_is, decided, as_lent}
use Rattle.acceptance.specs.Theorem.Orders.{check_order, condition_order, configure_order, list_order, plain_order, hall_order, shared_order, report_order}
use Rattle.acceptance.specs.Theorem.TextTold as Text
use Rattle.acceptance.specs.Theorem.Told.{refusal_exactly, run_told, fits, does_not_fit}

-- a call with the table `rows` was lent `lent`, answered a and left `left`
pub record ByTable {A M : Type 0} (rows : List Row) (a : Answer A) (lent left : M) : Type 0 where
  -- "Every image, set, budget and buffer length gets an answer": a row fails that no failing row stands before, or none fails
  pub answers : ((n : ℕ) × (p : ℕ) × Given rows n p) ⊎ NoneFails rows
  -- "a refusal has its number and place": n at p exactly when row n's test fails at p and no earlier row's does
  pub refusal : (n p : ℕ) → (a ≡ refused n p) ↔ Given rows n p
  -- "in every other case the call is carried out"
  pub carried_out : ((x : A) × (a ≡ answer x)) ↔ NoneFails rows
  -- "and changes nothing"
  pub unchanged : (n p : ℕ) → Given rows n p → left ≡ lent

-- a report was made of `input`, answered r and left out'
pub record Reported (input out out' : Bytes) (r : Result ℕ Short) : Type 0 where
  -- "Every image, set, budget and buffer length gets an answer"
  pub answers : ((n : ℕ) × (p : ℕ) × Given (report_rows input) n p) ⊎ NoneFails (report_rows input)
  -- "A refusal prints one line, its number and place": of n and p, numbers of 64 bits, exactly when row n is the first to fail, at p
  pub refusal : (n p : ℕ) → n < 2 ^ 64 → p < 2 ^ 64 → (text input ≡ refusal_line n p) ↔ Given (report_rows input) n p
  -- "in every other case the call is carried out": a line for each setting and the last one
  pub carried_out : NoneFails (report_rows input)
      → let run : Shared = run_of (image_in input) (set_in input) (budget_in input) in
      text input ≡ lines (settings (image_in input)) run ++ last_line (ends_of (settings (image_in input)) run)
  -- the text is all that is written, and where it does not fit nothing is
  pub written : length (text input) ≤ length out → (r ≡ Ok (length (text input))) × (out' ≡ over (text input) out)
  pub unchanged : length out < length (text input) → (r ≡ Err (record { 0 = length (text input) })) × (out' ≡ out)

-- a text was read with `out` lent, answered r and left out'
pub record ReadSo (text out out' : Bytes) (r : Result ℕ Refusal) : Type 0 where
  -- every text gets an answer, by the grammar alone
  pub answers : (a : Answer Bytes) × Told text (length out) a
  -- "17 text not of the grammar, at the first byte from which no continuation fits": exactly there, where no 18 is earlier
  pub text_wrong : (p : ℕ) → (answer_of r ≡ refused 17 p) ↔ (Refused17 text p × ((q : ℕ) → Refused18 text q → p < q))
  -- "18 a whole word, number or bracket that opens node 1,025 or condition 257, at its first byte; the earlier byte decides"
  pub too_many : (p : ℕ) → (answer_of r ≡ refused 18 p) ↔ (Refused18 text p × ((q : ℕ) → Refused17 text q → p < q))
  -- "14 last": the text is of the grammar and within the limits, and its image is longer than the space
  pub no_space : (p : ℕ) → (answer_of r ≡ refused 14 p)
      ↔ ((p ≡ 0) × ((F : ℕ) × (t : Statement Condition) × Holds text F t × (length out < length (written_image F t))))
  -- "in every other case the call is carried out"
  pub carried_out : ((n : ℕ) × (answer_of r ≡ answer n))
      ↔ ((F : ℕ) × (t : Statement Condition) × Holds text F t × (length (written_image F t) ≤ length out))
  -- "and changes nothing"
  pub unchanged : (n p : ℕ) → answer_of r ≡ refused n p → out' ≡ out

-- "no call relies on an earlier check": each promise is of every input
pub record Condition1 : Type 0 where
  -- these two are lent nothing to write in
  pub check : (l : Bytes) (r : Result Shape Refusal) → answer_of r ≡ judge (check_rows l) (shape_of l) → ByTable {M = Unit {0}} (check_rows l) (answer_of r) tt tt
  pub condition_set : (l : Bytes) (k : ℕ) (r : Result Set Refusal) → set_answer r ≡ judge (condition_rows l k) (in_condition l k)
      → ByTable {M = Unit {0}} (condition_rows l k) (set_answer r) tt tt
  pub configure : (l : Bytes) (s : ℕ) (out out' : Bytes) (r : Result ℕ Refusal) → Configures (configure_rows l s (length out)) l s out out' r
      → ByTable (configure_rows l s (length out)) (answer_of r) out out'
  pub plain_run : (l : Bytes) (budget : ℕ) (ns ns' : Numbers) (r : Result Progress Refusal) → Runs (plain_rows l budget (length ns)) l budget ns ns' r
      → ByTable (plain_rows l budget (length ns)) (answer_of r) ns ns'
  pub one_hall : (l : Bytes) (s budget : ℕ) (ns ns' : Numbers) (r : Result Progress Refusal) → RunsIn s (hall_rows l s budget (length ns)) l budget ns ns' r
      → ByTable (hall_rows l s budget (length ns)) (answer_of r) ns ns'
  pub shared_run : (l : Bytes) (set budget : ℕ) (xs xs' : List ℤ) (T T' : Tally) (r : Result Ends Refusal)
      → SharedRuns (shared_rows l set budget xs T) l set budget xs T xs' T' r
      → ByTable {M = List ℤ × Tally} (shared_rows l set budget xs T) (answer_of r) (xs, T) (xs', T')
  pub report : (input out out' : Bytes) (r : Result ℕ Short) → Reports (text input) out out' r → Reported input out out' r
  pub read : (text out out' : Bytes) (r : Result ℕ Refusal) → ReadsText text out out' r → ReadSo text out out' r
  pub list : (l out out' : Bytes) (r : Result ℕ Refusal) → Lists (list_rows l (length out)) l out out' r
      → ByTable (list_rows l (length out)) (answer_of r) out out'
  -- "Tests 1 to 8 go in that order": the numbers of each table
  pub check_order : (l : Bytes) → numbers (check_rows l) ≡ then []
  -- "Then: shared run 9, 10, 12; plain run 13, 10, 12; configuring 11, 14; set of a condition 15."
  pub shared_order : (l : Bytes) (set budget : ℕ) (xs : List ℤ) (T : Tally) → numbers (shared_rows l set budget xs T) ≡ then (9 ∷ 10 ∷ 12 ∷ [])
  pub plain_order : (l : Bytes) (budget space : ℕ) → numbers (plain_rows l budget space) ≡ then (13 ∷ 10 ∷ 12 ∷ [])
  pub configure_order : (l : Bytes) (s space : ℕ) → numbers (configure_rows l s space) ≡ then (11 ∷ 14 ∷ [])
  pub condition_order : (l : Bytes) (k : ℕ) → numbers (condition_rows l k) ≡ then (15 ∷ [])
  -- one hall: "Refusals: 1 to 8, 11, 10, 12 in that order"
  pub hall_order : (l : Bytes) (s budget space : ℕ) → numbers (hall_rows l s budget space) ≡ then (11 ∷ 10 ∷ 12 ∷ [])
  -- "The lister: 1 to 8, then 18, .. 14 last"
  pub list_order : (l : Bytes) (space : ℕ) → numbers (list_rows l space) ≡ then (18 ∷ 14 ∷ [])
  -- "The report program tests 16 first, then as the shared run"
  pub report_order : (input : Bytes) → numbers (report_rows input) ≡ 16 ∷ then (9 ∷ 10 ∷ 12 ∷ [])

-- what the promise of a call says, by its table
by_table : {A M : Type 0} (rows : List Row) (x : A) (new lent : M) {a : Answer A} {left : M} → a ≡ judge rows x → left ≡ written rows new lent
    → ByTable rows a lent left
by_table rows x new lent judged wrote = record {
  answers = decided rows;
  refusal = refusal_is rows x judged;
  carried_out = carried_is rows x judged;
  unchanged = as_lent rows new lent wrote;
}

pub condition_1 : Condition1
condition_1 = record {
  check = λ l r judged. by_table {M = Unit {0}} (check_rows l) _ tt tt judged refl;
  condition_set = λ l k r judged. by_table {M = Unit {0}} (condition_rows l k) _ tt tt judged refl;
  configure = λ l s out out' r wrote. by_table (configure_rows l s (length out)) _ _ out wrote.answered wrote.out_is;
  plain_run = λ l budget ns ns' r ran. by_table (plain_rows l budget (length ns)) _ _ ns ran.answered ran.numbers_are;
  one_hall = λ l s budget ns ns' r ran. by_table (hall_rows l s budget (length ns)) _ _ ns ran.answered ran.numbers_are;
  shared_run = λ l set budget xs xs' T T' r ran.
      let rows = shared_rows l set budget xs T in
      record {
        answers = decided rows;
        refusal = refusal_is rows _ ran.answered;
        carried_out = carried_is rows _ ran.answered;
        unchanged = λ n p given i. (as_lent rows _ xs ran.store_is n p given i, as_lent rows _ T ran.tally_is n p given i);
      };
  report = λ input out out' r reports. record {
    answers = decided (report_rows input);
    refusal = refusal_exactly input;
    carried_out = run_told input;
    written = fits reports;
    unchanged = does_not_fit reports;
  };
  read = λ text out out' r done. record {
    answers = told_some text (length out);
    text_wrong = Text.text_wrong_is text out out' r done;
    too_many = Text.too_many_is text out out' r done;
    no_space = Text.no_space_is text out out' r done;
    carried_out = Text.carried_out_is text out out' r done;
    unchanged = Text.as_lent text out out' r done;
  };
  list = λ l out out' r told. by_table (list_rows l (length out)) _ _ out told.answered told.out_is;
  check_order = check_order;
  shared_order = shared_order;
  plain_order = plain_order;
  configure_order = configure_order;
  condition_order = condition_order;
  hall_order = hall_order;
  list_order = list_order;
  report_order = report_order;
}
