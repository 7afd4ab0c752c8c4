-- A shared run that was carried out, by the rules of chapter 5: they derive one world, and what was answered and left is that world's, setting by setting.
use Rattle.std.specs.Prelude.{◌≡◌, true, List, ℕ, ◌<◌, ℤ, Ok}
use Rattle.std.proofs.Math.Path.{sym, ap, subst₂}
use Rattle.std.proofs.Common.{◌∙◌}
use Rattle.sets.specs.Member.{bit}
use Rattle.imp.specs.State.{State}
use Rattle.imp.specs.Configure.{configure}
use Rattle.imp.specs.Shared.{Shared}
use Rattle.imp.specs.Rules.Variational.{World, at_start, conf, seen}
use Rattle.imp.specs.Rules.Figure58.{⇓V, Vimp}
use Rattle.imp.proofs.Theorem.VimpStatements.{shared_is_derived, derived_is_shared}
use Rattle.image.specs.Bytes.{Bytes}
use Rattle.image.specs.Sets.{settings}
use Rattle.image.specs.Tree.{routine}
use Rattle.plain.specs.PlainRun.{progress_of}
use Rattle.shared.specs.declared.Ends.{Ends}
use Rattle.shared.specs.Lent.{Tally, progress, part}
use Rattle.shared.specs.SharedRun.{meant, ends_of, shared_rows, SharedRuns}
use Rattle.acceptance.specs.ByRules.{ended, says, ByImp}
use Rattle.acceptance.specs.Theorem.Shared as Run
use Rattle.acceptance.specs.Theorem.ImpEnds.{imp_ends}

module _ {l : Bytes} {set budget : ℕ} {xs xs' : List ℤ} {T T' : Tally} {e : Ends}
    (ran : SharedRuns (shared_rows l set budget xs T) l set budget xs T xs' T' (Ok e)) where
  abbrev N : ℕ
  N = settings l

  pub some_world : (Y : World) × Vimp N budget ⇓V (bit set) (at_start (part xs)) (routine l) Y
  some_world =
      let d = shared_is_derived N budget (bit set) (Run.below ran) (routine l) (part xs) in
      (d.0, d.1)

  -- whatever is derived shows what was answered and left
  module _ (Y : World) (d : Vimp N budget ⇓V (bit set) (at_start (part xs)) (routine l) Y) where
    shows : seen (bit set) Y ≡ meant l set budget xs
    unfolding meant
    shows = derived_is_shared N budget (bit set) (Run.below ran) (routine l) (part xs) Y d

    state_is : (s : ℕ) → (meant l set budget xs).at s ≡ conf (bit set) Y s
    unfolding seen
    state_is s = sym (ap (λ (Σ : Shared). Σ.at s) shows)

    pub visits_shown : e.visits ≡ Y.counts.visits
    unfolding seen ends_of
    visits_shown = ap (λ (x : Ends). x.visits) (Run.ends_are ran) ∙ sym (ap (λ (Σ : Shared). Σ.visits) shows)

    pub progress_shown : (s : ℕ) → s < N → progress T' s ≡ says (bit set) Y s
    unfolding progress_of conf ended
    progress_shown s h = Run.progress_left ran s h ∙ ap progress_of (state_is s)

    pub numbers_shown : (s : ℕ) → s < N → part xs' s ≡ Y.store s
    unfolding conf
    numbers_shown s h = Run.numbers_left ran s h ∙ ap (λ (σ : State). σ.numbers) (state_is s)

    -- in a setting of the set, what the world shows is what the rules of chapter 4 say of the configured routine
    pub world_agrees : (s : ℕ) → bit set s ≡ true
        → ByImp budget (configure s (routine l)) (part xs s) (Y.store s) (says (bit set) Y s)
    unfolding progress_of conf ended
    world_agrees s i =
        let end_is = sym (Run.inside_is ran s i) ∙ state_is s in
        subst₂ (ByImp budget (configure s (routine l)) (part xs s)) (ap (λ (σ : State). σ.numbers) end_is) (ap progress_of end_is)
        (imp_ends budget (configure s (routine l)) (part xs s))
