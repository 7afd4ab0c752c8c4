-- A run of one setting that was carried out, by the rules of chapter 4. The idea: it is theirs of the routine configured for the setting, and an image that holds
-- no choice is its own routine.
use Rattle.std.specs.Prelude.{◌≡◌, Bool, List, ◌∷◌, ℕ, length, Ok}
use Rattle.std.proofs.Common.{sym, ◌∙◌, ap, subst, arith, ltb-false}
use Rattle.std.proofs.Math.Path.{subst₂}
use Rattle.imp.specs.Routine.{Statement}
use Rattle.imp.specs.State.{Numbers}
use Rattle.imp.specs.Configure.{configure}
use Rattle.imp.specs.Embed.{embed}
use Rattle.imp.proofs.Theorem.Configured.{configure_embed}
use Rattle.image.specs.Bytes.{Bytes}
use Rattle.image.specs.Records.{header, node}
use Rattle.image.specs.Layout.{is_choice}
use Rattle.image.specs.Rows.{Row, lowest, check_rows, NoneFails}
use Rattle.image.specs.Tree.{routine}
use Rattle.image.specs.Accepted.{Accepted}
use Rattle.image.proofs.Theorem.Accepted.{all_passed}
use Rattle.image.proofs.Theorem.Lowest.{lowest_good}
use Rattle.image.proofs.Theorem.Carried.{none_each, carried, written_new}
use Rattle.plain.specs.declared.progress.Progress.{Progress}
use Rattle.plain.specs.PlainRun.{meant_in, progress_of, lent_rows, choice_row, plain_rows, RunsIn, Runs}
use Rattle.plain.specs.Theorem.NoChoice.{NoChoice, own_routine}
use Rattle.acceptance.specs.ByRules.{ByImp}
use Rattle.acceptance.specs.Theorem.ImpEnds.{imp_ends, imp_only}

-- ---- a run in setting s, whatever its table is: the rules of the routine configured for it

module _ {s : ℕ} {rows : List Row} {l : Bytes} {budget : ℕ} {ns ns' : Numbers} {p : Progress} (ran : RunsIn s rows l budget ns ns' (Ok p)) where
  none : NoneFails rows × (p ≡ progress_of (meant_in s l budget ns))
  none = carried rows (progress_of (meant_in s l budget ns)) p ran.answered

  pub hall_by_imp : ByImp budget (configure s (routine l)) ns ns' p
  unfolding meant_in
  hall_by_imp =
      let numbers_are = ran.numbers_are ∙ written_new rows _ ns none.0 in
      subst₂ (ByImp budget (configure s (routine l)) ns) (sym numbers_are) (sym none.1) (imp_ends budget (configure s (routine l)) ns)

  pub hall_by_imp_only : (ns'' : Numbers) (q : Progress) → ByImp budget (configure s (routine l)) ns ns'' q → (ns'' ≡ ns') × (q ≡ p)
  hall_by_imp_only ns'' q other =
      let this = imp_only budget (configure s (routine l)) ns hall_by_imp in
      let that = imp_only budget (configure s (routine l)) ns other in
      (that.0 ∙ sym this.0, that.1 ∙ sym this.1)

-- ---- a plain run: its image's own routine

module _ {l : Bytes} {budget : ℕ} {ns ns' : Numbers} {p : Progress}
    (ran : Runs (plain_rows l budget (length ns)) l budget ns ns' (Ok p)) where
  abbrev rows : List Row
  rows = plain_rows l budget (length ns)

  abbrev choice : ℕ → Bool
  choice n = is_choice (node l n).kind

  -- every test is passed
  passed : NoneFails (check_rows l) × NoneFails (choice_row l ∷ lent_rows budget (length ns))
  unfolding plain_rows
  passed = none_each (check_rows l) (choice_row l ∷ lent_rows budget (length ns)) (none ran).0

  is_accepted : Accepted l
  is_accepted = all_passed l passed.0

  no_choice : NoChoice l
  no_choice n h = lowest_good (header l).nodes choice n (omega (arith, ltb-false (lowest (header l).nodes choice) (header l).nodes passed.1.0))

  -- ---- the image's own routine

  pub plain_image : embed (configure 0 (routine l)) ≡ routine l
  plain_image = own_routine l is_accepted no_choice 0

  module _ (t : Statement ⊥) (own : embed t ≡ routine l) where
    same : configure 0 (routine l) ≡ t
    same = ap (configure 0) (sym own) ∙ configure_embed 0 t

    pub by_imp : ByImp budget t ns ns' p
    by_imp = subst (λ u. ByImp budget u ns ns' p) same (hall_by_imp ran)

    pub by_imp_only : (ns'' : Numbers) (q : Progress) → ByImp budget t ns ns'' q → (ns'' ≡ ns') × (q ≡ p)
    by_imp_only ns'' q other = hall_by_imp_only ran ns'' q (subst (λ u. ByImp budget u ns ns'' q) (sym same) other)
