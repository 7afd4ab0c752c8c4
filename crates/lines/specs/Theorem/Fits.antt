-- Every text fits a space of 2,112 bytes: codes are of 32 bits, steps within the budget, and there are at most 64 settings.
use Rattle.std.specs.Prelude.{◌≡◌, ℕ, zero, suc, ◌-◌, ◌*◌, ◌≤◌, ◌<◌, ℤ, pos, take, drop, replicate}
use Rattle.std.proofs.Math.Path.{refl, sym, subst}
use Rattle.std.proofs.Common.{◌∙◌, ltb-false}
use mathlib.Core.List.{List, [], ◌∷◌, ◌++◌}
use Rattle.std.proofs.Math.Nat.{pow-le-pow_right}
use native.Mathlib.Omega.{arith}
use Rattle.std.proofs.Math.ListN.{length, length-append}
use Rattle.sets.specs.Member.{bit, digit, members}
use Rattle.imp.specs.Shared.{Shared}
use Rattle.imp.specs.Valid.{Valid}
use Rattle.imp.proofs.Theorem.Range.{AllFit, InRange, shared_range}
use Rattle.image.specs.Bytes.{Bytes}
use Rattle.image.specs.Records.{header}
use Rattle.image.specs.Rows.{Row, Answer, refused, answer, judge, check_rows, NoneFails}
use Rattle.image.specs.Sets.{settings}
use Rattle.image.specs.Tree.{routine}
use Rattle.image.proofs.Theorem.Given.{answered, carried_out}
use Rattle.image.specs.Accepted.{Accepted}
use Rattle.image.proofs.Theorem.Carried.{none_each}
use Rattle.image.proofs.Theorem.Accepted.{all_passed}
use Rattle.image.proofs.Theorem.ReadValid.{read_valid}
use Rattle.plain.specs.PlainRun.{progress_of}
use Rattle.shared.specs.declared.Ends.{Ends}
use Rattle.shared.specs.Lent.{part}
use Rattle.shared.specs.SharedRun.{meant, ends_of, set_rows, shared_rows}
use Rattle.lines.specs.Limits.{enough}
use Rattle.lines.specs.Words.{visits_word, faults_word, out_word, refused_word, at_word, field}
use Rattle.lines.specs.Text.{line, lines, last_line, refusal_line, set_in, budget_in, image_in, zeros, blank, run_of, run_rows, report_rows, told, text}
use Rattle.lines.specs.Theorem.Lengths.{two, twenty, field_length, line_length}

-- ---- the lines

pub refusal_fits : (n p : ℕ) → length (refusal_line n p) ≤ 64
unfolding refusal_line
refusal_fits n p =
    omega (arith, length-append (field refused_word n 32) (field at_word p 10), field_length refused_word n 32, field_length at_word p 10, twenty n, twenty p)

members_few : (n k : ℕ) → members n k ≤ k
unfolding members digit
members_few n zero = omega arith
members_few n (suc k) = omega (arith, members_few n k)

last_fits : (e : Ends) → length (last_line e) ≤ 64
unfolding last_line
last_fits e =
    let faults : ℕ = members e.fault.bits 64 in
    let outs : ℕ = members e.out.bits 64 in
    omega (
      arith,
      length-append (field visits_word e.visits 32) (field faults_word faults 32 ++ field out_word outs 10),
      length-append (field faults_word faults 32) (field out_word outs 10),
      field_length visits_word e.visits 32,
      field_length faults_word faults 32,
      field_length out_word outs 10,
      twenty e.visits,
      two faults (omega (arith, members_few e.fault.bits 64)),
      two outs (omega (arith, members_few e.out.bits 64)),
    )

lines_fit : (n b : ℕ) (ns : ℕ → List ℤ) (Σ : Shared) → n ≤ 64 → b ≤ 100000
    → ((s : ℕ) → s < n → InRange b (ns s) (Σ.at s)) → length (lines n Σ) ≤ n * 32
unfolding lines progress_of
lines_fit zero b ns Σ h few right = omega arith
lines_fit (suc n) b ns Σ h few right =
    let r : InRange b (ns n) (Σ.at n) = right n (omega arith) in
    omega (
      arith,
      length-append (lines n Σ) (line n (progress_of (Σ.at n))),
      line_length n (progress_of (Σ.at n)) (omega arith) r.code_fits (omega (arith, r.within)),
      lines_fit n b ns Σ (omega arith) few (λ s i. right s (omega arith)),
    )

-- ---- the run starts from numbers of 32 bits

pub zeros_fit : (n : ℕ) → AllFit (replicate n (pos 0))
zeros_fit zero = tt
zeros_fit (suc n) = (record { sfits = omega arith }, zeros_fit n)

drop_fit : (n : ℕ) (ns : List ℤ) → AllFit ns → AllFit (drop n ns)
drop_fit zero ns f = f
drop_fit (suc n) [] f = tt
drop_fit (suc n) (z ∷ ns) f = drop_fit n ns f.1

take_fit : (n : ℕ) (ns : List ℤ) → AllFit ns → AllFit (take n ns)
take_fit zero ns f = tt
take_fit (suc n) [] f = tt
take_fit (suc n) (z ∷ ns) f = (f.0, take_fit n ns f.1)

-- ---- a run that is carried out

module _ (l : Bytes) (acc : Accepted l) where
  pub routine_valid : Valid (routine l)
  unfolding routine
  routine_valid = (read_valid l (header l).conditions (header l).nodes acc.nodes_fit ((header l).nodes - 1) (omega (arith, acc.some_node))).statement_valid

  pub few_settings : settings l ≤ 64
  unfolding settings
  few_settings = pow-le-pow_right {n = 2} (omega arith) {i = (header l).options} {j = 6} acc.few_options

module _ (l : Bytes) (set budget : ℕ) where
  abbrev Σ : Shared
  Σ = run_of l set budget

  module _ (acc : Accepted l) (allowed : budget ≤ 100000) where
    ranged : (s : ℕ) → s < settings l → InRange budget (part (zeros (settings l)) s) (Σ.at s)
    unfolding run_of meant part zeros
    ranged s h = shared_range (settings l) budget (routine l) (bit set) (part (zeros (settings l))) (routine_valid l acc) s h
        (take_fit 16 (drop (s * 16) (zeros (settings l))) (drop_fit (s * 16) (zeros (settings l)) (zeros_fit (settings l * 16))))

    run_fits : length (told (settings l) (answer Σ)) ≤ enough
    unfolding told
    run_fits =
        let few : settings l ≤ 64 = few_settings l acc in
        omega (
          arith,
          few,
          length-append (lines (settings l) Σ) (last_line (ends_of (settings l) Σ)),
          lines_fit (settings l) budget (part (zeros (settings l))) Σ few allowed ranged,
          last_fits (ends_of (settings l) Σ),
        )

  none_fails : NoneFails (run_rows l set budget) → length (told (settings l) (answer Σ)) ≤ enough
  unfolding run_rows shared_rows set_rows
  none_fails none =
      let rows : List Row = set_rows l set budget (zeros (settings l)) (blank (settings l)) in
      let each = none_each (check_rows l) rows none in
      run_fits (all_passed l each.0) (ltb-false 100000 budget each.1.1.0)

-- ---- the theorem

module _ (input : Bytes) where
  abbrev end : Shared
  end = run_of (image_in input) (set_in input) (budget_in input)

  answer_fits : (a : Answer Shared) → judge (report_rows input) end ≡ a → length (told (settings (image_in input)) a) ≤ enough
  unfolding told report_rows
  answer_fits (refused n p) e = omega (arith, refusal_fits n p)
  answer_fits (answer Σ') e =
      let none : NoneFails (report_rows input) = answered end (report_rows input) Σ' e in
      let same : answer Σ' ≡ answer end = sym e ∙ (carried_out end (report_rows input)).1 none in
      subst (λ a. length (told (settings (image_in input)) a) ≤ enough) (sym same)
      (none_fails (image_in input) (set_in input) (budget_in input) none.1)

  pub text_fits : length (text input) ≤ enough
  unfolding text
  text_fits = answer_fits (judge (report_rows input) end) refl
