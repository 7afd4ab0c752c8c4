-- What a shared run that was carried out answers: visits between each setting's steps and their sum, and the two sets by the outcomes.
use Rattle.std.specs.Prelude.{◌≡◌, false, List, ℕ, ◌≤◌, ◌<◌, ℤ, Ok}
use Rattle.std.proofs.Math.Path.{sym, ap}
use Rattle.std.proofs.Common.{◌∙◌, arith}
use Rattle.std.proofs.Math.Decide.{dec_lt}
use Rattle.std.proofs.Math.Dec.{eqb}
use Rattle.std.proofs.Math.ListN.{get_or}
use borrow.Author.Tests.{ne_eqb}
use Rattle.sets.specs.Member.{bit, has}
use Rattle.sets.proofs.Laws.{bit_none}
use Rattle.imp.specs.State.{State, outcome_number, untouched}
use Rattle.imp.specs.Shared.{Settings, Shared, total}
use Rattle.imp.proofs.Theorem.Bounds.{steps_below, visits_below, empty_visits}
use Rattle.image.specs.Bytes.{Bytes}
use Rattle.image.specs.Sets.{settings}
use Rattle.image.specs.Tree.{routine}
use Rattle.plain.specs.declared.progress.Progress.{Progress}
use Rattle.plain.specs.PlainRun.{progress_of}
use Rattle.shared.specs.declared.Ends.{Ends}
use Rattle.shared.specs.Lent.{Tally, progress, part}
use Rattle.shared.specs.SharedRun.{meant, set_of, ends_of, shared_rows, SharedRuns}
use Rattle.acceptance.specs.Theorem.Members.{member, no_member, no_members}
use Rattle.acceptance.specs.Theorem.Left.{total_same}
use Rattle.acceptance.specs.Theorem.Shared.{ends_are, outside_is, progress_left, outcome_past}

module _ {l : Bytes} {set budget : ℕ} {xs xs' : List ℤ} {T T' : Tally} {e : Ends}
    (ran : SharedRuns (shared_rows l set budget xs T) l set budget xs T xs' T' (Ok e)) where
  abbrev N : ℕ
  N = settings l

  abbrev end : Shared
  end = meant l set budget xs

  -- ---- visits and steps

  visits_are : e.visits ≡ end.visits
  unfolding ends_of
  visits_are = ap (λ (x : Ends). x.visits) (ends_are ran)

  steps_are : (s : ℕ) → s < N → get_or T'.steps s 0 ≡ (end.at s).steps
  unfolding progress progress_of
  steps_are s h = ap (λ (p : Progress). p.steps) (progress_left ran s h)

  pub least : (s : ℕ) → s < N → get_or T'.steps s 0 ≤ e.visits
  unfolding meant
  least s h = omega (arith, visits_are, steps_are s h, steps_below N budget (routine l) (bit set) (part xs) s h)

  pub most : e.visits ≤ total N (λ s. get_or T'.steps s 0)
  unfolding meant
  most =
      let sums = total_same N (λ s. get_or T'.steps s 0) (λ s. (end.at s).steps) steps_are in
      omega (arith, visits_are, visits_below N budget (routine l) (bit set) (part xs), sums)

  -- ---- who has ended how

  -- the settings with outcome o
  abbrev ended : ℕ → Settings
  ended o s = eqb (outcome_number (end.at s).outcome) o

  members : (o s : ℕ) → 0 < o → bit (set_of N (ended o)) s ≡ eqb (get_or T'.outcomes s 0) o
  unfolding progress progress_of
  members o s h = go (dec_lt s N)
    where
      go : Dec (s < N) → bit (set_of N (ended o)) s ≡ eqb (get_or T'.outcomes s 0) o
      go (yes i) = member N (ended o) s i ∙ sym (ap (λ (p : Progress). eqb p.outcome o) (progress_left ran s i))
      go (no i) =
          no_member N (ended o) s (omega arith) ∙ sym (ap (λ x. eqb x o) (outcome_past ran s (omega arith)) ∙ ne_eqb 0 o (λ z. omega arith))

  pub in_fault : (s : ℕ) → has e.fault s ≡ eqb (get_or T'.outcomes s 0) 2
  unfolding ends_of
  in_fault s = ap (λ (x : Ends). has x.fault s) (ends_are ran) ∙ members 2 s (omega arith)

  pub is_out : (s : ℕ) → has e.out s ≡ eqb (get_or T'.outcomes s 0) 3
  unfolding ends_of
  is_out s = ap (λ (x : Ends). has x.out s) (ends_are ran) ∙ members 3 s (omega arith)

  -- ---- the empty set

  module _ (z : set ≡ 0) where
    no_setting : (s : ℕ) → bit set s ≡ false
    no_setting s = ap (λ n. bit n s) z ∙ bit_none s

    pub no_visit : e.visits ≡ 0
    unfolding meant
    no_visit = visits_are ∙ empty_visits N budget (routine l) (bit set) (part xs) (λ s h. no_setting s)

    pub no_step : (s : ℕ) → s < N → get_or T'.steps s 0 ≡ 0
    unfolding untouched
    no_step s h = steps_are s h ∙ ap (λ (σ : State). σ.steps) (outside_is ran s h (no_setting s))

    nobody : (o : ℕ) → 0 < o → set_of N (ended o) ≡ 0
    unfolding untouched outcome_number
    nobody o h = no_members N (ended o) λ s i.
        ap (λ (σ : State). eqb (outcome_number σ.outcome) o) (outside_is ran s i (no_setting s)) ∙ ne_eqb 0 o (λ q. omega arith)

    pub no_fault : e.fault.bits ≡ 0
    unfolding ends_of
    no_fault = ap (λ (x : Ends). x.fault.bits) (ends_are ran) ∙ nobody 2 (omega arith)

    pub no_out : e.out.bits ≡ 0
    unfolding ends_of
    no_out = ap (λ (x : Ends). x.out.bits) (ends_are ran) ∙ nobody 3 (omega arith)
