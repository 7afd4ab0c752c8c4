-- What the promise of a call makes of a comparison: each answer of the program, from what the call answered and left.
use Rattle.std.specs.Prelude.{◌≡◌, Bool, true, false, ◌&&◌, List, ℕ, ◌*◌, ◌≤◌, ◌<◌, ℤ, length, Result, Ok, Err, Some, None}
use Rattle.std.proofs.Math.Path.{refl, ap, subst}
use Rattle.std.proofs.Common.{sym, ◌∙◌, lt-ltb, le-ltb}
use Rattle.sets.specs.Member.{bit}
use Rattle.imp.specs.State.{Numbers}
use Rattle.image.specs.Check.{answer_of}
use Rattle.image.specs.declared.refusals.Refusal.{Refusal}
use Rattle.image.specs.Bytes.{Bytes}
use Rattle.plain.specs.declared.progress.Progress.{Progress}
use Rattle.plain.specs.PlainRun.{hall_rows, RunsIn}
use Rattle.shared.specs.declared.Ends.{Ends}
use Rattle.shared.specs.Lent.{Tally}
use Rattle.shared.specs.SharedRun.{shared_rows, SharedRuns}
use Rattle.acceptance.specs.Condition3.{idle}
use Rattle.acceptance.specs.Inner.Comparing.{same_numbers, same_progress, starts, own_start, ended_so, agrees, stays, setting_holds, all_hold, judged, compared}

-- ---- one setting, of which p and `left` are told

module _ (s : ℕ) (p : Progress) (left : Numbers) where
  module _ {l : Bytes} {budget : ℕ} {ns ns' : Numbers} {r : Result Progress Refusal} (start : ns ≡ own_start s)
      (ran : RunsIn s (hall_rows l s budget (length ns)) l budget ns ns' r) where
    ran_so : ended_so (answer_of r) ns' p left ≡ agrees l s budget p left
    unfolding agrees
    ran_so =
        let own = subst (λ ms. RunsIn s (hall_rows l s budget (length ms)) l budget ms ns' r) start ran in
        λ i. ended_so (own.answered i) (own.numbers_are i) p left

    pub run_refused : {q : Refusal} → r ≡ Err q → false ≡ agrees l s budget p left
    run_refused e = ap (λ a. ended_so (answer_of a) ns' p left) (sym e) ∙ ran_so

    pub run_ended : {q : Progress} {u v : Bool} → r ≡ Ok q → u ≡ same_progress p q → v ≡ same_numbers ns' left
        → u && v ≡ agrees l s budget p left
    run_ended e f g = (λ i. f i && g i) ∙ ap (λ a. ended_so (answer_of a) ns' p left) (sym e) ∙ ran_so

  pub stays_so : {ns : Numbers} {u v : Bool} → ns ≡ own_start s → u ≡ same_progress p idle → v ≡ same_numbers ns left → u && v ≡ stays s p left
  unfolding stays
  stays_so start f g = (λ i. f i && g i) ∙ ap (λ ms. same_progress p idle && same_numbers ms left) start

  module _ (l : Bytes) (set budget visits : ℕ) where
    pub too_few : visits < p.steps → false ≡ setting_holds l set budget visits s p left
    unfolding setting_holds
    too_few h = rw (lt-ltb visits p.steps h) refl

    pub holds_inside : {u : Bool} → p.steps ≤ visits → bit set s ≡ true → u ≡ agrees l s budget p left
        → u ≡ setting_holds l set budget visits s p left
    unfolding setting_holds
    holds_inside h i e = rw (le-ltb visits p.steps h, i) e

    pub holds_outside : {u : Bool} → p.steps ≤ visits → bit set s ≡ false → u ≡ stays s p left
        → u ≡ setting_holds l set budget visits s p left
    unfolding setting_holds
    holds_outside h i e = rw (le-ltb visits p.steps h, i) e

-- ---- all settings

module _ (n : ℕ) {l : Bytes} {set budget : ℕ} {xs xs' : List ℤ} {T T' : Tally} {r : Result Ends Refusal} (start : xs ≡ starts 0 (n * 16))
    (ran : SharedRuns (shared_rows l set budget xs T) l set budget xs T xs' T' r) where
  shared_so : judged n l set budget (answer_of r) xs' T' ≡ compared n l set budget T
  unfolding compared
  shared_so =
      let own = subst (λ ys. SharedRuns (shared_rows l set budget ys T) l set budget ys T xs' T' r) start ran in
      λ i. judged n l set budget (own.answered i) (own.store_is i) (own.tally_is i)

  pub shared_refused : {q : Refusal} → r ≡ Err q → None ≡ compared n l set budget T
  shared_refused e = ap (λ a. judged n l set budget (answer_of a) xs' T') (sym e) ∙ shared_so

  pub shared_ended : {e : Ends} {u : Bool} → r ≡ Ok e → u ≡ all_hold l set budget e.visits xs' T'
      → Some (record { settings = n; visits = e.visits; holds = u }) ≡ compared n l set budget T
  shared_ended {e = e} d f =
      (λ i. Some (record { settings = n; visits = e.visits; holds = f i }))
      ∙ ap (λ a. judged n l set budget (answer_of a) xs' T') (sym d)
      ∙ shared_so
