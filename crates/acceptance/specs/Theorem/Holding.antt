-- Condition 3 makes every comparison of the program true.
use Rattle.std.specs.Prelude.{◌≡◌, refl, Bool, ℕ, ◌+◌, ◌*◌, ◌<◌, ℤ, pos, drop, Ok}
use Rattle.std.proofs.Math.Path.{sym, ap}
use Rattle.std.proofs.Common.{◌∙◌, arith, ext_get_or, get_or-take, get_or-drop}
use Rattle.std.proofs.Math.Bool.{true, false}
use mathlib.Core.List.{List}
use Rattle.std.proofs.Math.ListN.{length, get_or}
use borrow.Author.Tests.{le-leb}
use Rattle.sets.specs.Member.{bit}
use Rattle.imp.specs.State.{State}
use Rattle.imp.specs.Shared.{total}
use Rattle.image.specs.Bytes.{Bytes}
use Rattle.image.specs.Rows.{Row, NoneFails}
use Rattle.image.specs.Sets.{settings}
use Rattle.image.specs.Accepted.{Accepted}
use Rattle.image.proofs.Theorem.Given.{carried_out}
use Rattle.image.proofs.Theorem.Carried.{carried, written_new}
use Rattle.plain.specs.PlainRun.{meant_in, progress_of, hall_rows, RunsIn}
use Rattle.shared.specs.declared.Ends.{Ends}
use Rattle.shared.specs.Lent.{Tally, progress, part}
use Rattle.shared.specs.SharedRun as Sharing
use Rattle.shared.specs.SharedRun.{tally_of, ends_of, shared_rows, SharedRuns}
use Rattle.acceptance.specs.Inner.Comparing.{first, starts, own_start, agrees, stays, setting_holds, all_hold}
use Rattle.acceptance.specs.Condition3.{Condition3, condition_3}
use Rattle.acceptance.specs.Theorem.Left.{each_length, each_at, part_length}
use Rattle.acceptance.specs.Theorem.Shared as Run
use Rattle.acceptance.specs.Theorem.Hall as Hall
use Rattle.acceptance.specs.Theorem.Same.{every_true, same_numbers_is, same_progress_is}
use Rattle.acceptance.specs.Theorem.Compared.{run_ended, stays_so, holds_inside, holds_outside}

-- ---- the numbers that a setting starts with are its part of the store

pub starts_length : (at n : ℕ) → length (starts at n) ≡ n
unfolding starts
starts_length at n = each_length (λ v. first (at + v)) n

part_of_start : (N s : ℕ) → s < N → part (starts 0 (N * 16)) s ≡ own_start s
unfolding starts part
part_of_start N s h =
    let sixteen : length (part (starts 0 (N * 16)) s) ≡ 16 = part_length (starts 0 (N * 16)) N s (starts_length 0 (N * 16)) h in
    ext_get_or (pos 0) (part (starts 0 (N * 16)) s) (own_start s) (sixteen ∙ sym (starts_length (s * 16) 16)) λ v i.
    let same : 0 + (s * 16 + v) ≡ s * 16 + v = omega arith in
    get_or-take 16 (drop (s * 16) (starts 0 (N * 16))) v (pos 0) (omega (arith, sixteen))
    ∙ get_or-drop (s * 16) (starts 0 (N * 16)) v (pos 0)
    ∙ each_at (λ k. first (0 + k)) (N * 16) (s * 16 + v) (pos 0) (omega (arith, sixteen))
    ∙ ap first same
    ∙ sym (each_at (λ k. first (s * 16 + k)) 16 v (pos 0) (omega (arith, sixteen)))

-- ---- a shared run that was carried out

module _ {l : Bytes} {set budget : ℕ} {xs xs' : List ℤ} {T T' : Tally} {e : Ends} (begun : xs ≡ starts 0 (settings l * 16))
    (ran : SharedRuns (shared_rows l set budget xs T) l set budget xs T xs' T' (Ok e)) where
  abbrev N : ℕ
  N = settings l

  kept : Condition3 l set budget xs xs' T' e
  kept = condition_3 l set budget xs xs' T T' e ran

  acc : Accepted l
  acc = Run.is_accepted ran

  own_part : (s : ℕ) → s < N → part xs s ≡ own_start s
  own_part s h = ap (λ ys. part ys s) begun ∙ part_of_start N s h

  agree : (s : ℕ) → s < N → bit set s ≡ true → true ≡ agrees l s budget (progress T' s) (part xs' s)
  agree s h i =
      let rows : List Row = hall_rows l s budget (length (part xs s)) in
      let none : NoneFails rows = Hall.none l acc s budget h (Run.allowed ran) (part xs s) (Run.sixteen ran s h) in
      let end : State = meant_in s l budget (part xs s) in
      let runs : RunsIn s rows l budget (part xs s) end.numbers (Ok (progress_of end)) =
      record { answered = sym ((carried_out (progress_of end) rows).1 none); numbers_are = sym (written_new rows end.numbers (part xs s) none) } in
      let ends = kept.inside s i end.numbers (Ok (progress_of end)) runs in
      let same : progress_of end ≡ progress T' s = let both = ends.0 in cc in
      run_ended s (progress T' s) (part xs' s) (own_part s h) runs refl
      (sym ((same_progress_is (progress T' s) (progress_of end)).1 (sym same))) (sym ((same_numbers_is end.numbers (part xs' s)).1 ends.1))

  stay : (s : ℕ) → s < N → bit set s ≡ false → true ≡ stays s (progress T' s) (part xs' s)
  stay s h i =
      let same = kept.outside s h i in
      stays_so s (progress T' s) (part xs' s) (own_part s h) (sym ((same_progress_is (progress T' s) _).1 same.0))
      (sym ((same_numbers_is (part xs s) (part xs' s)).1 (sym same.1)))

  each_holds : (s : ℕ) → s < N → setting_holds l set budget e.visits s (progress T' s) (part xs' s) ≡ true
  unfolding progress
  each_holds s h = sym (go (bit set s) refl)
    where
      go : (u : Bool) → bit set s ≡ u → true ≡ setting_holds l set budget e.visits s (progress T' s) (part xs' s)
      go true i = holds_inside s (progress T' s) (part xs' s) l set budget e.visits (kept.least s h) i (agree s h i)
      go false i = holds_outside s (progress T' s) (part xs' s) l set budget e.visits (kept.least s h) i (stay s h i)

  all_settings : length T'.outcomes ≡ N
  unfolding tally_of
  all_settings =
      let rows : List Row = shared_rows l set budget xs T in
      let none = (carried rows (ends_of N (Sharing.meant l set budget xs)) e ran.answered).0 in
      ap (λ (U : Tally). length U.outcomes) (ran.tally_is ∙ written_new rows (tally_of N (Sharing.meant l set budget xs)) T none)
      ∙ each_length _ N

  pub all_true : true ≡ all_hold l set budget e.visits xs' T'
  unfolding all_hold
  all_true =
      let settings-hold = every_true N (λ s. setting_holds l set budget e.visits s (progress T' s) (part xs' s)) each_holds in
      let within = le-leb e.visits (total N (λ s. get_or T'.steps s 0)) kept.most in
      rw all_settings (rw (settings-hold, within) refl)
