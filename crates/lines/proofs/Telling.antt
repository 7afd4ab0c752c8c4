-- What the shared run promises of a blank start is what the report tells.
use mathlib.Core.Path.{◌≡◌, sym, ◌∙◌, ap, ap₂}
use mathlib.Core.List.{List, ◌++◌}
use Prim.Native.Nat.{ℕ}
use lib.IntN.{ℤ}
use Rattle.std.specs.Prelude.{Result, Ok, Err}
use Rattle.imp.specs.Shared.{Shared}
use Rattle.image.specs.declared.refusals.Refusal.{Refusal}
use Rattle.image.specs.Bytes.{Bytes}
use Rattle.image.specs.Refusals.{number_of, place_of}
use Rattle.image.specs.Rows.{refused, judge, check_rows}
use Rattle.image.specs.Check.{shape_of}
use Rattle.image.specs.Sets.{settings}
use Rattle.image.proofs.Theorem.Then.{judge_stops}
use Rattle.image.proofs.Theorem.Carried.{carried, written_new, carried_again, refused_again}
use Rattle.shared.specs.declared.Ends.{Ends}
use Rattle.shared.specs.Lent.{Tally}
use Rattle.shared.specs.SharedRun.{ends_of, tally_of, shared_rows, SharedRuns}
use Rattle.lines.specs.Inner.Telling.{tallied, Blank}
use Rattle.lines.specs.Text.{last_line, refusal_line, zeros, blank, run_of, run_rows, told, run_text}
use Rattle.lines.proofs.Tallies.{tallied_are}

module _ (l : Bytes) (set budget : ℕ) where
  abbrev N : ℕ
  N = settings l

  abbrev Σ : Shared
  Σ = run_of l set budget

  from_blank : {room : ℕ} {xs xs' : List ℤ} {T T' : Tally} {r : Result Ends Refusal} → Blank N xs T room
      → SharedRuns (shared_rows l set budget xs T) l set budget xs T xs' T' r
      → SharedRuns (run_rows l set budget) l set budget (zeros N) (blank N) xs' T' r
  unfolding run_rows
  from_blank b h = rw (b.store_is, b.tally_is) at h

  pub tell_refused : {room : ℕ} {xs xs' : List ℤ} {T T' : Tally} {r : Refusal} → Blank N xs T room
      → SharedRuns (shared_rows l set budget xs T) l set budget xs T xs' T' (Err r)
      → refusal_line (number_of r) (place_of r) ≡ run_text l set budget
  unfolding told run_of
  tell_refused b h = sym (ap (told N) (refused_again (run_rows l set budget) (ends_of N Σ) Σ (from_blank b h).answered))

  pub tell_ended : {room : ℕ} {xs xs' : List ℤ} {T T' : Tally} {e : Ends} → Blank N xs T room
      → SharedRuns (shared_rows l set budget xs T) l set budget xs T xs' T' (Ok e)
      → tallied N T' ++ last_line e ≡ run_text l set budget
  unfolding told run_of
  tell_ended b h =
      let p : SharedRuns (run_rows l set budget) l set budget (zeros N) (blank N) _ _ _ = from_blank b h in
      let done = carried (run_rows l set budget) (ends_of N Σ) _ p.answered in
      sym (
      ap (told N) (carried_again (run_rows l set budget) (ends_of N Σ) Σ p.answered)
      ∙ ap (λ t. t ++ last_line (ends_of N Σ)) (sym (tallied_are N Σ))
      ∙ ap₂ (λ T e. tallied N T ++ last_line e)
      (sym (p.tally_is ∙ written_new (run_rows l set budget) (tally_of N Σ) (blank N) done.0))
      (sym done.1)
      )

  -- the check refuses
  pub tell_check : (r : Refusal) → refused (number_of r) (place_of r) ≡ judge (check_rows l) (shape_of l)
      → refusal_line (number_of r) (place_of r) ≡ run_text l set budget
  unfolding told run_rows shared_rows
  tell_check r e = sym (ap (told N) (judge_stops (shape_of l) (check_rows l) _ Σ _ _ (sym e)))
