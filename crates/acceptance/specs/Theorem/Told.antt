-- A report by its table: the text is a refusal's line exactly where its row is the first to fail, and a run's where none does. What does not fit is not
-- written.
use Rattle.std.specs.Prelude.{◌≡◌, cond, ◌++◌, ◌↔◌, ◌⊎◌, ℕ, ◌^◌, ◌≤◌, ◌<◌, length, Result, Ok, Err}
use Rattle.std.proofs.Common.{sym, ◌∙◌, subst₂, inl, inr, pow_pos, lt-ltb, le-ltb}
use Rattle.std.proofs.Math.Path.{ap}
use Rattle.image.specs.Bytes.{Bytes, over}
use Rattle.image.specs.Records.{header}
use Rattle.image.specs.Sets.{settings}
use Rattle.image.specs.Rows.{NoneFails, Given}
use Rattle.image.proofs.Theorem.Given.{refused_given, carried_out}
use Rattle.imp.specs.Shared.{Shared}
use Rattle.shared.specs.SharedRun.{ends_of}
use Rattle.lines.specs.declared.answer.Short.{Short}
use Rattle.lines.specs.Report.{Reports}
use Rattle.lines.specs.Text.{lines, last_line, refusal_line, set_in, budget_in, image_in, run_of, report_rows, told, text}
use Rattle.acceptance.specs.Theorem.ByTable.{decided}
use Rattle.acceptance.specs.Theorem.RefusalLines.{same_line, no_line}
use Rattle.acceptance.specs.Theorem.Places.{report_64}

some_setting : (l : Bytes) → 0 < settings l
unfolding settings
some_setting l = pow_pos (header l).options

module _ (input : Bytes) where
  abbrev N : ℕ
  N = settings (image_in input)

  abbrev run : Shared
  run = run_of (image_in input) (set_in input) (budget_in input)

  refusal_told : (n p : ℕ) → Given (report_rows input) n p → text input ≡ refusal_line n p
  unfolding text told
  refusal_told n p given = ap (told N) ((refused_given run (report_rows input) n p).1 given)

  pub run_told : NoneFails (report_rows input) → text input ≡ lines N run ++ last_line (ends_of N run)
  unfolding text told
  run_told none = ap (told N) ((carried_out run (report_rows input)).1 none)

  -- and only there: the line tells them, and a run's text is no such line
  back : (n p : ℕ) → n < 2 ^ 64 → p < 2 ^ 64 → text input ≡ refusal_line n p
      → ((n' : ℕ) × (p' : ℕ) × Given (report_rows input) n' p') ⊎ NoneFails (report_rows input) → Given (report_rows input) n p
  back n p hn hp e (inl other) =
      let small = report_64 input other.0 other.1 other.2 in
      let same = same_line other.0 n other.1 p small.0 hn small.1 hp (sym (refusal_told other.0 other.1 other.2) ∙ e) in
      subst₂ (Given (report_rows input)) same.0 same.1 other.2
  back n p hn hp e (inr none) = absurd (no_line N (some_setting (image_in input)) run (last_line (ends_of N run)) n p (sym (run_told none) ∙ e))

  pub refusal_exactly : (n p : ℕ) → n < 2 ^ 64 → p < 2 ^ 64 → (text input ≡ refusal_line n p) ↔ Given (report_rows input) n p
  refusal_exactly n p hn hp = (λ e. back n p hn hp e (decided (report_rows input)), refusal_told n p)

-- ---- what is written of it

module _ {t out out' : Bytes} {r : Result ℕ Short} (reports : Reports t out out' r) where
  pub fits : length t ≤ length out → (r ≡ Ok (length t)) × (out' ≡ over t out)
  fits h =
      let e = le-ltb (length out) (length t) h in
      (reports.answered ∙ ap (λ u. cond u (Err (record { 0 = length t })) (Ok (length t))) e, reports.out_is ∙ ap (λ u. cond u out (over t out)) e)

  pub does_not_fit : length out < length t → (r ≡ Err (record { 0 = length t })) × (out' ≡ out)
  does_not_fit h =
      let e = lt-ltb (length out) (length t) h in
      (reports.answered ∙ ap (λ u. cond u (Err (record { 0 = length t })) (Ok (length t))) e, reports.out_is ∙ ap (λ u. cond u out (over t out)) e)
