-- A shared run that was carried out: what its tests leave known, and what it left for each setting.
use Rattle.std.specs.Prelude.{◌≡◌, Bool, List, ℕ, ◌*◌, ◌≤◌, ◌<◌, ℤ, pos, Ok}
use Rattle.std.proofs.Math.Path.{refl, ap}
use Rattle.std.proofs.Common.{◌∙◌}
use Rattle.std.proofs.Math.Bool.{true, false}
use Rattle.std.proofs.Math.ListN.{length, get_or}
use borrow.Author.Tests.{ltb-false, eqb-true, not-false}
use Rattle.sets.specs.Member.{bit}
use Rattle.imp.specs.State.{State, outcome_number, code, fresh, untouched}
use Rattle.imp.specs.Configure.{configure}
use Rattle.imp.specs.Plain.{plain_run}
use Rattle.imp.specs.Shared.{Shared, Below}
use Rattle.imp.proofs.Theorem.Sets.{and_true}
use Rattle.imp.proofs.Theorem.Keep.{length_kept}
use Rattle.imp.proofs.Theorem.Beyond.{not_beyond}
use Rattle.imp.proofs.Theorem.Agreement.{agreement, outside}
use Rattle.image.specs.Bytes.{Bytes}
use Rattle.image.specs.Rows.{Row, check_rows, NoneFails}
use Rattle.image.specs.Sets.{settings}
use Rattle.image.specs.Tree.{routine}
use Rattle.image.specs.Accepted.{Accepted}
use Rattle.image.proofs.Theorem.Accepted.{all_passed}
use Rattle.image.proofs.Theorem.Carried.{none_each, carried, written_new}
use Rattle.plain.specs.PlainRun.{progress_of}
use Rattle.shared.specs.declared.Ends.{Ends}
use Rattle.shared.specs.Lent.{Tally, progress, part}
use Rattle.shared.specs.SharedRun.{meant, numbers_of, tally_of, ends_of, exact, set_rows, shared_rows, SharedRuns}
use Rattle.acceptance.specs.Theorem.Left.{each_at, each_past, part_length, numbers_at}

module _ {l : Bytes} {set budget : ℕ} {xs xs' : List ℤ} {T T' : Tally} {e : Ends}
    (ran : SharedRuns (shared_rows l set budget xs T) l set budget xs T xs' T' (Ok e)) where
  abbrev N : ℕ
  N = settings l

  abbrev end : Shared
  end = meant l set budget xs

  abbrev rows : List Row
  rows = shared_rows l set budget xs T

  -- ---- every test is passed

  none : NoneFails rows × (e ≡ ends_of N end)
  none = carried rows (ends_of N end) e ran.answered

  passed : NoneFails (check_rows l) × NoneFails (set_rows l set budget xs T)
  unfolding shared_rows
  passed = none_each (check_rows l) (set_rows l set budget xs T) none.0

  pub is_accepted : Accepted l
  is_accepted = all_passed l passed.0

  pub below : Below N (bit set)
  unfolding set_rows
  below = not_beyond N set passed.1.0

  pub allowed : budget ≤ 100000
  unfolding set_rows
  allowed = ltb-false 100000 budget passed.1.1.0

  store_length : length xs ≡ N * 16
  unfolding set_rows exact
  store_length = eqb-true (length xs) (N * 16) (and_true _ _ (not-false _ passed.1.1.1.0)).0

  pub sixteen : (s : ℕ) → s < N → length (part xs s) ≡ 16
  sixteen s h = part_length xs N s store_length h

  -- ---- what is left

  pub ends_are : e ≡ ends_of N end
  ends_are = none.1

  store_is : xs' ≡ numbers_of N end
  store_is = ran.store_is ∙ written_new rows (numbers_of N end) xs none.0

  tally_is : T' ≡ tally_of N end
  tally_is = ran.tally_is ∙ written_new rows (tally_of N end) T none.0

  -- agreement, and outside the set nothing
  pub inside_is : (s : ℕ) → bit set s ≡ true → end.at s ≡ plain_run budget (configure s (routine l)) (part xs s)
  unfolding meant
  inside_is s i = agreement N budget (routine l) (bit set) (part xs) s (below s i) i

  pub outside_is : (s : ℕ) → s < N → bit set s ≡ false → end.at s ≡ untouched (part xs s)
  unfolding meant
  outside_is s h i = outside N budget (routine l) (bit set) (part xs) s h i

  still_sixteen : (s : ℕ) → s < N → length (end.at s).numbers ≡ 16
  unfolding plain_run fresh untouched
  still_sixteen s h = go (bit set s) refl
    where
      go : (u : Bool) → bit set s ≡ u → length (end.at s).numbers ≡ 16
      go true i =
          ap (λ (σ : State). length σ.numbers) (inside_is s i) ∙ length_kept budget (configure s (routine l)) (fresh (part xs s)) ∙ sixteen s h
      go false i = ap (λ (σ : State). length σ.numbers) (outside_is s h i) ∙ sixteen s h

  pub numbers_left : (s : ℕ) → s < N → part xs' s ≡ (end.at s).numbers
  numbers_left s h = ap (λ ys. part ys s) store_is ∙ numbers_at N end still_sixteen s h

  pub progress_left : (s : ℕ) → s < N → progress T' s ≡ progress_of (end.at s)
  unfolding progress progress_of tally_of
  progress_left s h = ap (λ T. progress T s) tally_is ∙ (λ i. record {
    outcome = each_at (λ s. outcome_number (end.at s).outcome) N s 0 h i;
    code = each_at (λ s. code (end.at s).outcome) N s (pos 0) h i;
    steps = each_at (λ s. (end.at s).steps) N s 0 h i;
  })

  -- past the last setting there is no outcome
  pub outcome_past : (s : ℕ) → N ≤ s → get_or T'.outcomes s 0 ≡ 0
  unfolding tally_of
  outcome_past s h = ap (λ (T : Tally). get_or T.outcomes s 0) tally_is ∙ each_past (λ s. outcome_number (end.at s).outcome) N s 0 h
