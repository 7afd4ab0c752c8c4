-- No cut before 9,237 bytes is harmless: at 9,236 an image that is a byte longer than any would pass for the longest.
use Rattle.std.specs.Prelude.{◌≡◌, refl, ◌∷◌, ℕ, ◌<◌, get_or, take, replicate}
use Rattle.std.proofs.Common.{sym, ◌∙◌, ap, arith, take-take}
use Rattle.image.specs.Bytes.{Bytes, number_at}
use Rattle.image.specs.Records.{header, condition_record}
use Rattle.image.specs.Layout.{condition_kinds, condition_layout, field_fits}
use Rattle.image.specs.Rows.{judge, short, edition_wrong, counts_wrong, length_wrong, lowest, lowest_from, condition_fits, check_rows}
use Rattle.shared.specs.SharedRun.{shared_rows}
use Rattle.text.specs.Decimal.{digits, decimal}
use Rattle.lines.specs.Words.{field}
use Rattle.lines.specs.Limits.{longest, most}
use Rattle.lines.specs.Text.{refusal_line, run_rows, report_rows, told, text}

-- set and budget 0, the header of 256 conditions and 1,024 nodes, condition 0 of kind 15, and zeros: a byte too many
long : Bytes
long = 0 ∷ 0 ∷ 0 ∷ 0 ∷ 0 ∷ 0 ∷ 0 ∷ 0 ∷ 0 ∷ 0 ∷ 0 ∷ 0 ∷ 1 ∷ 1 ∷ 0 ∷ 64 ∷ 0 ∷ 0 ∷ 0 ∷ 0 ∷ 240 ∷ replicate 9216 0

-- opens all that these texts compute with
opened : Unit {0}
unfolding long text told report_rows run_rows shared_rows check_rows judge short edition_wrong counts_wrong length_wrong lowest lowest_from condition_fits
    condition_layout condition_kinds field_fits header condition_record number_at refusal_line field decimal digits
opened = tt

-- refused 4 at 0, and what is left of it by the cut refused 5 at 0
whole : text long ≡ refusal_line 4 0
unfolding opened
whole = refl

shortened : text (take longest long) ≡ refusal_line 5 0
unfolding opened
shortened = refl

differ : refusal_line 5 0 ≡ refusal_line 4 0 → ⊥
unfolding opened
differ e = let byte : ◌≡◌ {A = ℕ} 53 52 = ap (λ l. get_or l 8 0) e in omega arith

pub least : (k : ℕ) → k < most → ((input : Bytes) → text (take k input) ≡ text input) → ⊥
least k h harmless =
    differ (sym shortened ∙ sym (harmless (take longest long)) ∙ ap text (take-take k longest long (omega arith)) ∙ harmless long ∙ whole)
