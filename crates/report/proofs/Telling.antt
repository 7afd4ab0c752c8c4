-- What a report leaves in a space that every text fits: the text of the stream that was read, and never an answer that it is short.
use mathlib.Core.Path.{◌≡◌, refl, sym, ◌∙◌, ap}
use Rattle.std.specs.Prelude.{Result, Ok}
use Rattle.std.specs.Result.{IsOk}
use mathlib.Core.List.{◌++◌}
use Prim.Native.Nat.{ℕ, ◌≤◌}
use native.Mathlib.Omega.{arith}
use lib.ListN.{length, take, drop, length-append}
use lib.Seq.{take-append_seam}
use borrow.Author.Tests.{le-ltb}
use Rattle.image.specs.Bytes.{Bytes, over}
use Rattle.lines.specs.declared.answer.Short.{Short}
use Rattle.lines.specs.Limits.{most, enough}
use Rattle.lines.specs.Text.{text}
use Rattle.lines.specs.Report.{Reports}
use Rattle.lines.specs.Theorem.Cut.{cut_later}
use Rattle.lines.specs.Theorem.Fits.{text_fits}
use Rattle.report.specs.Stream.{Tells}

module _ (input : Bytes) (n : ℕ) {space space' : Bytes} {r : Result ℕ Short} (room : enough ≤ length space)
    (reports : Reports (text (take n input)) space space' r) where
  abbrev told : Bytes
  told = text (take n input)

  answered : r ≡ Ok (length told)
  answered = rw (le-ltb (length space) (length told) (omega (arith, text_fits (take n input)))) at reports.answered

  left : space' ≡ told ++ drop (length told) space
  unfolding over
  left = rw (le-ltb (length space) (length told) (omega (arith, text_fits (take n input)))) at reports.out_is

  pub fits : IsOk r
  fits = rw answered refl

  module _ {end : ℕ} (e : r ≡ Ok end) where
    end_is : end ≡ length told
    end_is =
        let same : ◌≡◌ {A = Result ℕ Short} (Ok end) (Ok (length told)) = sym e ∙ answered in
        cc

    pub within : end ≤ length space'
    within = omega (arith, end_is, ap length left, length-append told (drop (length told) space))

    pub tells : most ≤ length input → Tells input n (take end space')
    tells full = record {
      is_text = λ stream same.
          ap (λ k. take k space') end_is
          ∙ ap (take (length told)) left
          ∙ take-append_seam told (drop (length told) space)
          ∙ ap text same
          ∙ cut_later (length input) stream full;
    }
