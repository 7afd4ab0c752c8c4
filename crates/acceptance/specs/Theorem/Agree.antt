-- What condition 3 says of each setting, of a shared run that was carried out: in the set it is the run of one hall, outside it is idle.
use Rattle.std.specs.Prelude.{◌≡◌, true, false, List, ℕ, ◌≤◌, ◌<◌, ℤ, pos, length, Result, Ok}
use Rattle.std.proofs.Math.Path.{sym, ap}
use Rattle.std.proofs.Common.{◌∙◌}
use Rattle.sets.specs.Member.{bit}
use Rattle.imp.specs.State.{State, outcome_number, code, untouched}
use Rattle.image.specs.declared.refusals.Refusal.{Refusal}
use Rattle.image.specs.Bytes.{Bytes}
use Rattle.image.specs.Sets.{settings}
use Rattle.configure.specs.Configured.{configured, configure_rows, Configures}
use Rattle.plain.specs.declared.progress.Progress.{Progress}
use Rattle.plain.specs.PlainRun.{meant_in, progress_of, hall_rows, RunsIn}
use Rattle.shared.specs.declared.Ends.{Ends}
use Rattle.shared.specs.Lent.{Tally, progress, part}
use Rattle.shared.specs.SharedRun.{shared_rows, SharedRuns}
use Rattle.acceptance.specs.Theorem.Shared as Run
use Rattle.acceptance.specs.Theorem.Configured.{is_written, enough}
use Rattle.acceptance.specs.Theorem.Hall.{hall_ends}

module _ {l : Bytes} {set budget : ℕ} {xs xs' : List ℤ} {T T' : Tally} {e : Ends}
    (ran : SharedRuns (shared_rows l set budget xs T) l set budget xs T xs' T' (Ok e)) where
  pub carried_out : (s : ℕ) → bit set s ≡ true → (out out' : Bytes) (r : Result ℕ Refusal) → 8200 ≤ length out
      → Configures (configure_rows l s (length out)) l s out out' r → (n : ℕ) × (r ≡ Ok n)
  carried_out s i out out' r room wrote =
      let acc = Run.is_accepted ran in
      (length (configured l s), is_written l s out out' acc (Run.below ran s i) (enough l s (length out) acc room) wrote)

  pub in_the_set : (s : ℕ) → bit set s ≡ true → (ns' : List ℤ) (r : Result Progress Refusal)
      → RunsIn s (hall_rows l s budget (length (part xs s))) l budget (part xs s) ns' r → (r ≡ Ok (progress T' s)) × (ns' ≡ part xs' s)
  unfolding meant_in
  in_the_set s i ns' r runs =
      let below = Run.below ran s i in
      let end_is = sym (Run.inside_is ran s i) in
      let ends = hall_ends l (Run.is_accepted ran) s budget below (Run.allowed ran) (part xs s) (Run.sixteen ran s below) runs in (
        ends.0 ∙ ap (λ σ. Ok (progress_of σ)) end_is ∙ ap Ok (sym (Run.progress_left ran s below)),
        ends.1 ∙ ap (λ (σ : State). σ.numbers) end_is ∙ sym (Run.numbers_left ran s below),
      )

  -- "idle, 0, 0"
  pub outside_the_set : (s : ℕ) → s < settings l → bit set s ≡ false
      → (progress T' s ≡ record { outcome = 0; code = pos 0; steps = 0 }) × (part xs' s ≡ part xs s)
  unfolding progress_of untouched outcome_number code
  outside_the_set s h i = (
    Run.progress_left ran s h ∙ ap progress_of (Run.outside_is ran s h i),
    Run.numbers_left ran s h ∙ ap (λ (σ : State). σ.numbers) (Run.outside_is ran s h i),
  )
