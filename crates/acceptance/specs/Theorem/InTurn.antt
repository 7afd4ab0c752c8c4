-- The two calls in turn keep one hall's promise. The idea: behind tests 1 to 8 and 11, what configuring wrote passes tests 1 to 8 and 13 and means the same run,
-- so that the same is left on both sides: tests 10 and 12.
use Rattle.std.specs.Prelude.{◌≡◌, ℕ, ◌<◌, length, take, Result, Ok, Err}
use Rattle.std.proofs.Math.Path.{sym, ap}
use Rattle.std.proofs.Common.{◌∙◌, subst, subst₂, arith, lt-ltb, le-ltb}
use Rattle.std.proofs.Math.Bool.{not}
use mathlib.Core.List.{List, [], ◌∷◌, ◌++◌}
use Rattle.imp.specs.State.{Numbers, State}
use Rattle.imp.specs.Configure.{configure}
use Rattle.imp.specs.Plain.{plain_run}
use Rattle.imp.proofs.Theorem.Configured.{configure_embed}
use Rattle.image.specs.declared.refusals.Refusal.{Refusal}
use Rattle.image.specs.Bytes.{Bytes}
use Rattle.image.specs.Refusals.{number_of, place_of}
use Rattle.image.specs.Rows.{Row, refused, judge, written, check_rows, NoneFails}
use Rattle.image.specs.Sets.{settings, setting_row}
use Rattle.image.specs.Tree.{routine}
use Rattle.image.specs.Accepted.{Accepted}
use Rattle.image.proofs.Theorem.Accepted.{all_passed, accepts}
use Rattle.image.proofs.Theorem.Given.{judge_passes, by_answer, written_as_judged}
use Rattle.image.proofs.Theorem.Then.{judge_then}
use Rattle.image.proofs.Theorem.Carried.{none_each, refused_alike}
use Rattle.configure.specs.Configured.{configured, space_rows, configure_rows, Configures}
use Rattle.configure.specs.Theorem.Result.{shape_is, passes, tree_is}
use Rattle.plain.specs.declared.progress.Progress.{Progress}
use Rattle.plain.specs.PlainRun.{meant_in, meant, progress_of, lent_rows, choice_row, plain_rows, hall_rows, RunsIn, Runs}
use Rattle.plain.specs.Theorem.NoChoice.{no_choice_row, no_condition}
use Rattle.acceptance.specs.InTurn.{InTurn, stopped, went_on}
use Rattle.acceptance.specs.Theorem.Configured as Written

module _ (l : Bytes) (s budget : ℕ) (ns : Numbers) where
  abbrev image : Bytes
  image = configured l s

  abbrev rows : List Row
  rows = hall_rows l s budget (length ns)

  -- ---- what configuring wrote is run

  module _ (acc : Accepted l) (below : s < settings l) where
    is_meant : meant image budget ns ≡ meant_in s l budget ns
    unfolding meant_in
    is_meant = ap (λ t. plain_run budget t ns) (ap (configure 0) (tree_is l acc s) ∙ configure_embed 0 (configure s (routine l)))

    same_judged : {A : Type 0} (x : A) → judge (plain_rows image budget (length ns)) x ≡ judge rows x
    unfolding plain_rows hall_rows
    same_judged x =
        let new : Accepted image = passes l acc s in
        judge_then x (check_rows image) _ x (accepts image x new)
        ∙ judge_passes (choice_row image) _ x (no_choice_row image (no_condition image new (shape_is l acc s).1))
        ∙ sym (judge_then x (check_rows l) _ x (accepts l x acc) ∙ judge_passes (setting_row l s) _ x (ap (λ u. not u) (lt-ltb s (settings l) below)))

    same_written : (new : Numbers) → written (plain_rows image budget (length ns)) new ns ≡ written rows new ns
    same_written new =
        written_as_judged (plain_rows image budget (length ns)) new new ns
        ∙ ap (λ a. by_answer a new ns) (same_judged new)
        ∙ sym (written_as_judged rows new new ns)

  pub as_run : (out out' : Bytes) (n : ℕ) → Configures (configure_rows l s (length out)) l s out out' (Ok n) → {ns' : Numbers} {r : Result Progress Refusal}
      → Runs (plain_rows (take n out') budget (length ns)) (take n out') budget ns ns' r → RunsIn s rows l budget ns ns' r
  as_run out out' n wrote {ns'} {r} ran =
      let acc = Written.was_accepted l s out out' wrote in
      let below = Written.was_below l s out out' wrote in
      let own = subst (λ m. Runs (plain_rows m budget (length ns)) m budget ns ns' r) (Written.image_written l s out out' wrote) ran in
      record {
        answered = own.answered ∙ same_judged acc below _ ∙ ap (λ σ. judge rows (progress_of σ)) (is_meant acc below);
        numbers_are = own.numbers_are ∙ same_written acc below _ ∙ ap (λ (σ : State). written rows σ.numbers ns) (is_meant acc below);
      }

  -- ---- both

  pub as_one_hall : {ns' : Numbers} {r : Result Progress Refusal} → InTurn l s budget ns ns' r → RunsIn s rows l budget ns ns' r
  unfolding check_rows configure_rows space_rows hall_rows
  as_one_hall (went_on out out' n wrote ran) = as_run out out' n wrote ran
  as_one_hall (stopped out out' q room wrote r-is ns-is) =
      subst₂ (λ ms a. RunsIn s rows l budget ns ms a) (sym ns-is) (sym r-is) as_refused
    where
      -- the refusal is one of tests 1 to 8 and 11: there is space for what would be written
      same_refusal : {A : Type 0} (x : A) → refused (number_of q) (place_of q) ≡ judge rows x
      same_refusal x =
          let first : List Row = check_rows l ++ (setting_row l s ∷ []) in
          let fits : NoneFails first → NoneFails (space_rows l s (length out)) = λ none.
          let long = room (all_passed l (none_each (check_rows l) (setting_row l s ∷ []) none).0) in
          (le-ltb (length out) (length image) (omega (arith, long)), tt) in
          sym (refused_alike x (length image) (space_rows l s (length out)) (lent_rows budget (length ns)) (number_of q) (place_of q) first fits (sym wrote.answered))

      as_refused : RunsIn s rows l budget ns ns (Err q)
      as_refused =
          let new : Numbers = (meant_in s l budget ns).numbers in
          record {
            answered = same_refusal _;
            numbers_are = sym (written_as_judged rows new new ns ∙ ap (λ a. by_answer a new ns) (sym (same_refusal new)));
          }
