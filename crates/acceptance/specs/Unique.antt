-- "For every input, refused ones too, what a call returns and all memory it was given are determined by its statement; where two results could satisfy it they
-- are proved equal": of each public call, two results that keep its promise on the same input are equal, the answer and all that is left in what was lent.
use Rattle.std.specs.Prelude.{◌≡◌, Bool, not, ◌&&◌, ◌||◌, List, ℕ, ◌^◌, ◌<◌, eqb, ltb, ℤ, length, get_or, Result, Ok, Option}
use Rattle.std.proofs.Common.{sym, ◌∙◌, ap}
use Rattle.sets.specs.declared.Set.{Set}
use Rattle.sets.specs.Member.{bit, has, members, verdict_of, full_of, bits_of, verdict_number}
use Rattle.imp.specs.State.{Numbers}
use Rattle.image.specs.declared.accept.Shape.{Shape}
use Rattle.image.specs.declared.refusals.Refusal.{Refusal}
use Rattle.image.specs.Bytes.{Bytes}
use Rattle.image.specs.Inner.SetsOf.{TableOf}
use Rattle.image.proofs.Theorem.OneTable.{AllSmall, one_table}
use Rattle.image.specs.Check.{answer_of, shape_of}
use Rattle.image.specs.Refusals.{number_of, place_of}
use Rattle.image.specs.Rows.{judge, check_rows}
use Rattle.image.specs.Sets.{in_condition, condition_rows, set_answer}
use Rattle.written.proofs.Theorem.ToldOne.{told_one}
use Rattle.reading.specs.Reads.{length_of, left_by, ReadsText}
use Rattle.listing.specs.Lists.{list_rows, Lists}
use Rattle.configure.specs.Configured.{configure_rows, Configures}
use Rattle.plain.specs.declared.progress.Progress.{Progress}
use Rattle.plain.specs.PlainRun.{plain_rows, hall_rows, RunsIn, Runs}
use Rattle.shared.specs.declared.Ends.{Ends}
use Rattle.shared.specs.Lent.{Tally}
use Rattle.shared.specs.SharedRun.{shared_rows, SharedRuns}
use Rattle.lines.specs.declared.answer.Short.{Short}
use Rattle.lines.specs.Report.{Reports}
use Rattle.lines.specs.Text.{text}
use Rattle.acceptance.specs.Theorem.One.{one_result, one_set, one_condition_set, one_full}

-- a set's bits are a number of 64 bits, as the code has it
abbrev pub Small : Set → Type 0
Small S = S.bits < 2 ^ 64

pub record Unique : Type 0 where
  -- ---- images and runs
  pub check : (l : Bytes) (r r' : Result Shape Refusal)
      → answer_of r ≡ judge (check_rows l) (shape_of l) → answer_of r' ≡ judge (check_rows l) (shape_of l) → r ≡ r'
  pub number : (q : Refusal) (n n' : ℕ) → n ≡ number_of q → n' ≡ number_of q → n ≡ n'
  pub place : (q : Refusal) (p p' : ℕ) → p ≡ place_of q → p' ≡ place_of q → p ≡ p'
  pub condition_set : (l : Bytes) (k : ℕ) (r r' : Result Set Refusal) → ((S : Set) → r ≡ Ok S → Small S) → ((S : Set) → r' ≡ Ok S → Small S)
      → set_answer r ≡ judge (condition_rows l k) (in_condition l k) → set_answer r' ≡ judge (condition_rows l k) (in_condition l k) → r ≡ r'
  -- the table that `condition_sets` lends to the crates above, of numbers of 64 bits
  pub condition_sets : (l : Bytes) (n : ℕ) (table table' : List ℕ) → AllSmall table → AllSmall table' → TableOf l n table → TableOf l n table' → table ≡ table'
  pub configure : (l : Bytes) (s : ℕ) (out out' out'' : Bytes) (r r' : Result ℕ Refusal)
      → Configures (configure_rows l s (length out)) l s out out' r → Configures (configure_rows l s (length out)) l s out out'' r'
      → (r ≡ r') × (out' ≡ out'')
  pub plain_run : (l : Bytes) (budget : ℕ) (ns ns' ns'' : Numbers) (r r' : Result Progress Refusal)
      → Runs (plain_rows l budget (length ns)) l budget ns ns' r → Runs (plain_rows l budget (length ns)) l budget ns ns'' r'
      → (r ≡ r') × (ns' ≡ ns'')
  pub one_hall : (l : Bytes) (s budget : ℕ) (ns ns' ns'' : Numbers) (r r' : Result Progress Refusal)
      → RunsIn s (hall_rows l s budget (length ns)) l budget ns ns' r → RunsIn s (hall_rows l s budget (length ns)) l budget ns ns'' r'
      → (r ≡ r') × (ns' ≡ ns'')
  pub shared_run : (l : Bytes) (set budget : ℕ) (xs xs' xs'' : List ℤ) (T T' T'' : Tally) (r r' : Result Ends Refusal)
      → SharedRuns (shared_rows l set budget xs T) l set budget xs T xs' T' r
      → SharedRuns (shared_rows l set budget xs T) l set budget xs T xs'' T'' r'
      → (r ≡ r') × (xs' ≡ xs'') × (T' ≡ T'')
  pub report : (input out out' out'' : Bytes) (r r' : Result ℕ Short) → Reports (text input) out out' r → Reports (text input) out out'' r'
      → (r ≡ r') × (out' ≡ out'')
  -- ---- the written form
  pub read : (text out out' out'' : Bytes) (r r' : Result ℕ Refusal) → ReadsText text out out' r → ReadsText text out out'' r' → (r ≡ r') × (out' ≡ out'')
  pub list : (l out out' out'' : Bytes) (r r' : Result ℕ Refusal)
      → Lists (list_rows l (length out)) l out out' r → Lists (list_rows l (length out)) l out out'' r' → (r ≡ r') × (out' ≡ out'')
  -- ---- sets
  pub empty : (r r' : Set) → r.bits ≡ 0 → r'.bits ≡ 0 → r ≡ r'
  pub at : (table : List ℕ) (k : ℕ) (r r' : Set) → r.bits ≡ get_or table k 0 → r'.bits ≡ get_or table k 0 → r ≡ r'
  pub meet : (A B r r' : Set) → Small r → Small r'
      → ((s : ℕ) → has r s ≡ (has A s && has B s)) → ((s : ℕ) → has r' s ≡ (has A s && has B s)) → r ≡ r'
  pub join : (A B r r' : Set) → Small r → Small r'
      → ((s : ℕ) → has r s ≡ (has A s || has B s)) → ((s : ℕ) → has r' s ≡ (has A s || has B s)) → r ≡ r'
  pub take_away : (A B r r' : Set) → Small r → Small r'
      → ((s : ℕ) → has r s ≡ (has A s && not (has B s))) → ((s : ℕ) → has r' s ≡ (has A s && not (has B s))) → r ≡ r'
  pub with : (A : Set) (x : ℕ) (r r' : Set) → Small r → Small r'
      → ((s : ℕ) → has r s ≡ (has A s || (eqb s x && ltb x 64))) → ((s : ℕ) → has r' s ≡ (has A s || (eqb s x && ltb x 64))) → r ≡ r'
  pub option : (full : Set) (k : ℕ) (r r' : Set) → Small r → Small r'
      → ((s : ℕ) → has r s ≡ (has full s && bit s k)) → ((s : ℕ) → has r' s ≡ (has full s && bit s k)) → r ≡ r'
  pub full : (f : ℕ) (r r' : Option Set) → verdict_of r ≡ full_of f → verdict_of r' ≡ full_of f → r ≡ r'
  pub is_member : (A : Set) (s : ℕ) (r r' : Bool) → r ≡ has A s → r' ≡ has A s → r ≡ r'
  pub is_empty : (A : Set) (r r' : Bool) → r ≡ eqb (members A.bits 64) 0 → r' ≡ eqb (members A.bits 64) 0 → r ≡ r'
  pub count : (A : Set) (n n' : ℕ) → n ≡ members A.bits 64 → n' ≡ members A.bits 64 → n ≡ n'
  -- ---- sets on plain numbers, for the panel: `sets_meet`, `sets_join`, `sets_take_away` and `sets_option` say of each setting whether it is in the answer
  pub panel : (P : ℕ → Bool) (n n' : ℕ) → n < 2 ^ 64 → n' < 2 ^ 64 → ((s : ℕ) → bit n s ≡ P s) → ((s : ℕ) → bit n' s ≡ P s) → n ≡ n'
  pub panel_full : (f n n' : ℕ) → n ≡ bits_of (full_of f) → n' ≡ bits_of (full_of f) → n ≡ n'
  pub panel_full_refusal : (f n n' : ℕ) → n ≡ verdict_number (full_of f) → n' ≡ verdict_number (full_of f) → n ≡ n'

pub unique : Unique
unique = record {
  check = λ l r r' e e'. one_result r r' e e';
  number = λ q n n' e e'. e ∙ sym e';
  place = λ q p p' e e'. e ∙ sym e';
  condition_set = λ l k r r' h h' e e'. one_condition_set r r' h h' e e';
  condition_sets = λ l n table table' h h' e e'. one_table h h' e e';
  configure = λ l s out out' out'' r r' w w'. (one_result r r' w.answered w'.answered, w.out_is ∙ sym w'.out_is);
  plain_run = λ l budget ns ns' ns'' r r' w w'. (one_result r r' w.answered w'.answered, w.numbers_are ∙ sym w'.numbers_are);
  one_hall = λ l s budget ns ns' ns'' r r' w w'. (one_result r r' w.answered w'.answered, w.numbers_are ∙ sym w'.numbers_are);
  shared_run = λ l set budget xs xs' xs'' T T' T'' r r' w w'.
      (one_result r r' w.answered w'.answered, w.store_is ∙ sym w'.store_is, w.tally_is ∙ sym w'.tally_is);
  report = λ input out out' out'' r r' w w'. (w.answered ∙ sym w'.answered, w.out_is ∙ sym w'.out_is);
  read = λ text out out' out'' r r' w w'.
      let same = told_one w'.by_grammar w.by_grammar in
      (one_result r r' w.answered (w'.answered ∙ ap length_of same), w.out_is ∙ sym (w'.out_is ∙ ap (λ a. left_by a out) same));
  list = λ l out out' out'' r r' w w'. (one_result r r' w.answered w'.answered, w.out_is ∙ sym w'.out_is);
  empty = λ r r' e e'. ap (λ (n : ℕ). record { bits = n }) (e ∙ sym e');
  at = λ table k r r' e e'. ap (λ (n : ℕ). record { bits = n }) (e ∙ sym e');
  meet = λ A B r r' h h' e e'. one_set _ r r' h h' e e';
  join = λ A B r r' h h' e e'. one_set _ r r' h h' e e';
  take_away = λ A B r r' h h' e e'. one_set _ r r' h h' e e';
  with = λ A x r r' h h' e e'. one_set _ r r' h h' e e';
  option = λ full k r r' h h' e e'. one_set _ r r' h h' e e';
  full = λ f r r' e e'. one_full r r' e e';
  is_member = λ A s r r' e e'. e ∙ sym e';
  is_empty = λ A r r' e e'. e ∙ sym e';
  count = λ A n n' e e'. e ∙ sym e';
  panel = λ P n n' h h' e e'. ap (λ (S : Set). S.bits) (one_set P (record { bits = n }) (record { bits = n' }) h h' e e');
  panel_full = λ f n n' e e'. e ∙ sym e';
  panel_full_refusal = λ f n n' e e'. e ∙ sym e';
}
