-- What the run of one hall promises of a start from zeros is what is told of it.
use mathlib.Core.Path.{◌≡◌, sym, ◌∙◌, ap, ap₂}
use mathlib.Core.List.{List, ◌++◌}
use Prim.Native.Nat.{ℕ, ◌≤◌, ◌<◌}
use lib.ListN.{length}
use Rattle.std.specs.Prelude.{Result, Ok, Err}
use Rattle.imp.specs.State.{Numbers, State}
use Rattle.image.specs.declared.refusals.Refusal.{Refusal}
use Rattle.image.specs.Bytes.{Bytes}
use Rattle.image.specs.Refusals.{number_of, place_of}
use Rattle.image.specs.Rows.{Row, NoneFails}
use Rattle.image.proofs.Theorem.Carried.{carried, written_new, carried_again, refused_again}
use Rattle.plain.specs.declared.progress.Progress.{Progress}
use Rattle.plain.specs.PlainRun.{progress_of, RunsIn}
use Rattle.lines.specs.Text.{line, refusal_line, zeros}
use Rattle.hall.specs.Text.{variable_lines, run_of, run_rows, told, run_text}
use Rattle.hall.specs.Theorem.Fits.{below, line_fits}

module _ (l : Bytes) (s budget : ℕ) where
  abbrev σ : State
  σ = run_of l s budget

  abbrev rows : List Row
  rows = run_rows l s budget

  abbrev pub Runs : Numbers → Result Progress Refusal → Type 0
  Runs = RunsIn s rows l budget (zeros 1)

  pub tell_refused : {ns : Numbers} {r : Refusal} → Runs ns (Err r) → refusal_line (number_of r) (place_of r) ≡ run_text l s budget
  unfolding told run_of
  tell_refused h = sym (ap (told s) (refused_again rows (progress_of σ) σ h.answered))

  module _ {ns : Numbers} {p : Progress} (h : Runs ns (Ok p)) where
    done : NoneFails rows × (p ≡ progress_of σ)
    unfolding run_of
    done = carried rows (progress_of σ) p h.answered

    pub in_range : s < 64
    in_range = below l s budget done.0

    pub line_short : length (line s p) ≤ 32
    line_short = rw done.1 (line_fits l s budget done.0)

    pub tell_ended : line s p ++ variable_lines 16 ns ≡ run_text l s budget
    unfolding told run_of
    tell_ended =
        sym (
        ap (told s) (carried_again rows (progress_of σ) σ h.answered)
        ∙ ap₂ (λ p ns. line s p ++ variable_lines 16 ns)
        (sym done.1)
        (sym (h.numbers_are ∙ written_new rows σ.numbers (zeros 1) done.0))
        )
