-- The answers of a run of one setting, free of the code: each row's refusal leaves the numbers as they were, and a run that ended is the one meant.
use Rattle.std.specs.Prelude.{Result, Ok, Err}
use mathlib.Core.Path.{◌≡◌, refl, sym, ◌∙◌, ap}
use mathlib.Core.Bool.{true, false}
use mathlib.Core.List.{List, ◌∷◌, ◌++◌}
use Prim.Native.Nat.{ℕ, ◌-◌, ◌≤◌, ◌<◌}
use lib.Dec.{ltb}
use lib.IntN.{pos}
use lib.ListN.{length}
use borrow.Author.Tests.{lt-ltb, le-ltb, eq-eqb, ne_eqb}
use Rattle.imp.specs.State.{Numbers, State, fresh}
use Rattle.imp.specs.Configure.{configure}
use Rattle.imp.specs.Plain.{plain_run, run}
use Rattle.image.specs.declared.refusals.Refusal.{Refusal}
use Rattle.image.specs.declared.refusals.Refusal.TheVariants.{BudgetOver, SettingBeyond, LentWrong, ChoiceHeld}
use Rattle.image.specs.Bytes.{Bytes}
use Rattle.image.specs.Records.{header, node}
use Rattle.image.specs.Refusals.{number_of, place_of}
use Rattle.image.specs.Layout.{is_choice}
use Rattle.image.specs.Rows.{Row, refused, answer, judge, written, lowest, check_rows}
use Rattle.image.specs.Check.{shape_of}
use Rattle.image.specs.Sets.{settings, setting_row}
use Rattle.image.specs.Tree.{read, routine}
use Rattle.image.specs.Accepted.{Accepted}
use Rattle.image.proofs.Theorem.Accepted.{accepts}
use Rattle.image.proofs.Theorem.Then.{judge_then, judge_stops, written_then, written_stops}
use Rattle.plain.specs.declared.progress.Progress.{Progress}
use Rattle.plain.specs.Inner.Progress.{outcome_from, state_of, Proper}
use Rattle.plain.specs.Inner.Running.{Ran}
use Rattle.plain.specs.PlainRun.{meant_in, progress_of, lent_rows, choice_row, plain_rows, hall_rows, RunsIn, Runs}

-- ---- tests 10 and 12, and the run

-- a setting's progress is that of its state
as_progress : (r : Progress) (ns : Numbers) → Proper r.outcome r.code → progress_of (state_of r ns) ≡ r
unfolding progress_of state_of
as_progress r ns p = λ i. record { outcome = p.outcome_is i; code = p.code_is i; steps = r.steps }

module _ (s : ℕ) (l : Bytes) (budget : ℕ) (ns : Numbers) where
  abbrev lent : List Row
  lent = lent_rows budget (length ns)

  pub over_budget : 100000 < budget → RunsIn s lent l budget ns ns (Err BudgetOver)
  unfolding lent_rows judge written
  over_budget h = let e = lt-ltb 100000 budget h in record { answered = rw e; numbers_are = rw e }

  pub wrong_length : budget ≤ 100000 → (length ns ≡ 16 → ⊥) → RunsIn s lent l budget ns ns (Err LentWrong)
  unfolding lent_rows judge written
  wrong_length h n =
      let e = le-ltb 100000 budget h in
      let f = ne_eqb (length ns) 16 n in
      record { answered = rw (e, f); numbers_are = rw (e, f) }

  -- a run that starts afresh at the last of n nodes, and n is P, is the one meant
  abbrev from_last : ℕ → State
  from_last n = run budget (configure s (read l (n - 1)).statement) (state_of (record { outcome = 1; code = pos 0; steps = 0 }) ns)

  is_meant : from_last (header l).nodes ≡ meant_in s l budget ns
  unfolding meant_in plain_run routine state_of outcome_from fresh
  is_meant = refl

  pub ended : {n : ℕ} {r : Progress} {ns' : Numbers} → budget ≤ 100000 → length ns ≡ 16
      → n ≡ (header l).nodes → Ran (from_last n) r ns' → RunsIn s lent l budget ns ns' (Ok r)
  unfolding lent_rows judge written state_of
  ended {n} {r} {ns'} h sixteen nodes_are ran =
      let e = le-ltb 100000 budget h in
      let f = eq-eqb (length ns) 16 sixteen in
      let reached : state_of r ns' ≡ meant_in s l budget ns = ran.reaches ∙ ap from_last nodes_are ∙ is_meant in
      record {
        answered = rw (e, f) (ap answer (sym (as_progress r ns' ran.proper) ∙ ap progress_of reached));
        numbers_are = rw (e, f) (ap (λ (σ : State). σ.numbers) reached);
      }

-- ---- tests 1 to 8 and the call's own first test before them

module _ (s : ℕ) (l : Bytes) (budget : ℕ) (ns : Numbers) (first : Row) where
  abbrev all : List Row
  all = check_rows l ++ (first ∷ lent_rows budget (length ns))

  pub refused_first : (r : Refusal) → refused (number_of r) (place_of r) ≡ judge (check_rows l) (shape_of l) → RunsIn s all l budget ns ns (Err r)
  refused_first r e = record {
    answered = sym (judge_stops (shape_of l) (check_rows l) _ _ _ _ (sym e));
    numbers_are = sym (written_stops (shape_of l) (check_rows l) _ _ _ _ _ (sym e));
  }

  module _ (acc : Accepted l) where
    stops : (r : Refusal) → first.fails ≡ true → number_of r ≡ first.number → place_of r ≡ first.place → RunsIn s all l budget ns ns (Err r)
    unfolding judge written
    stops r fails number_is place_is = record {
      answered = (λ i. refused (number_is i) (place_is i)) ∙ sym (judge_then budget (check_rows l) _ _ (accepts l budget acc) ∙ rw fails);
      numbers_are = sym (written_then budget (check_rows l) _ _ _ (accepts l budget acc) ∙ rw fails);
    }

    goes_on : first.fails ≡ false → {ns' : Numbers} {r : Result Progress Refusal} → RunsIn s (lent_rows budget (length ns)) l budget ns ns' r → RunsIn s all l budget ns ns' r
    unfolding judge written
    goes_on passes runs = record {
      answered = runs.answered ∙ sym (judge_then budget (check_rows l) _ _ (accepts l budget acc) ∙ rw passes);
      numbers_are = runs.numbers_are ∙ sym (written_then budget (check_rows l) _ _ _ (accepts l budget acc) ∙ rw passes);
    }

-- test 13, of the plain run
module _ (l : Bytes) (budget : ℕ) (ns : Numbers) (acc : Accepted l) {k : ℕ} (is-lowest : k ≡ lowest (header l).nodes (λ n. is_choice (node l n).kind)) where
  pub choice_held : k < (header l).nodes → Runs (plain_rows l budget (length ns)) l budget ns ns (Err (ChoiceHeld k))
  unfolding plain_rows
  choice_held h = stops 0 l budget ns (choice_row l) acc (ChoiceHeld k) (lt-ltb _ _ (rw is-lowest at h)) refl is-lowest

  pub no_choice : (header l).nodes ≤ k → {ns' : Numbers} {r : Result Progress Refusal} → Runs (lent_rows budget (length ns)) l budget ns ns' r
      → Runs (plain_rows l budget (length ns)) l budget ns ns' r
  unfolding plain_rows
  no_choice h = goes_on 0 l budget ns (choice_row l) acc (le-ltb _ _ (rw is-lowest at h))

-- test 11, of one hall
module _ (s : ℕ) (l : Bytes) (budget : ℕ) (ns : Numbers) (acc : Accepted l) where
  pub beyond : ltb s (settings l) ≡ false → RunsIn s (hall_rows l s budget (length ns)) l budget ns ns (Err SettingBeyond)
  unfolding hall_rows
  beyond e = stops s l budget ns (setting_row l s) acc SettingBeyond (rw e) refl refl

  pub below : ltb s (settings l) ≡ true → {ns' : Numbers} {r : Result Progress Refusal} → RunsIn s (lent_rows budget (length ns)) l budget ns ns' r
      → RunsIn s (hall_rows l s budget (length ns)) l budget ns ns' r
  unfolding hall_rows
  below e = goes_on s l budget ns (setting_row l s) acc (rw e)
