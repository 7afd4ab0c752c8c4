-- Bytes behind the first 9,237 change no text: an image that is longer than any is refused by its header, or else for its length.
use Rattle.std.specs.Prelude.{◌≡◌, ℕ, ◌≤◌, ◌<◌, length, take}
use Rattle.std.proofs.Common.{sym, ◌∙◌, ap, arith, length-take, take_all, take-take}
use Rattle.std.proofs.Math.Decide.{dec_lt}
use Rattle.image.specs.Bytes.{Bytes}
use Rattle.image.specs.Records.{header}
use Rattle.plain.specs.PlainRun.{hall_rows}
use Rattle.lines.specs.Limits.{most}
use Rattle.lines.specs.Text.{refusal_line, image_in}
use Rattle.lines.specs.Theorem.Cut.{same_header, number_given, by_header}
use Rattle.hall.specs.Text.{setting_in, told, text}

said : (input : Bytes) → most ≤ length input → text input ≡ refusal_line (number_given (header (image_in input))) 0
unfolding text hall_rows told
said input h = ap (told (setting_in input)) (by_header input _ _ h)

-- ---- the theorem, and the same of every later cut

pub cut : (input : Bytes) → text (take most input) ≡ text input
cut input = go (dec_lt most (length input))
  where
    go : Dec (most < length input) → text (take most input) ≡ text input
    go (yes h) =
        said (take most input) (omega (arith, length-take most input))
        ∙ ap (λ h. refusal_line (number_given h) 0) (same_header input most (omega arith))
        ∙ sym (said input (omega arith))
    go (no h) = ap text (take_all most input (omega arith))

pub cut_later : (k : ℕ) (input : Bytes) → most ≤ k → text (take k input) ≡ text input
cut_later k input h = sym (cut (take k input)) ∙ ap text (take-take most k input h) ∙ cut input
