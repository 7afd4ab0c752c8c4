-- What `compare` answers is what is expected: the tests of the shared run that can fail are those of the image, the set and the budget.
use Rattle.std.specs.Prelude.{◌≡◌, List, ℕ, ◌*◌, length, Ok, Some, None}
use Rattle.std.proofs.Math.Path.{refl, sym, ap}
use Rattle.std.proofs.Common.{◌∙◌, arith}
use Rattle.std.proofs.Math.Bool.{true, not}
use borrow.Author.Tests.{eq-eqb}
use Rattle.imp.specs.Shared.{Shared}
use Rattle.image.specs.Bytes.{Bytes}
use Rattle.image.specs.Rows.{Row, Answer, refused, answer, judge, written, check_rows, NoneFails}
use Rattle.image.specs.Sets.{settings}
use Rattle.image.proofs.Theorem.Given.{answered, carried_out}
use Rattle.image.proofs.Theorem.Carried.{none_each, none_both, written_new}
use Rattle.shared.specs.declared.Ends.{Ends}
use Rattle.shared.specs.Lent.{Tally}
use Rattle.shared.specs.SharedRun as Sharing
use Rattle.shared.specs.SharedRun.{numbers_of, tally_of, ends_of, exact, set_rows, shared_rows, SharedRuns}
use Rattle.acceptance.specs.declared.compare.Compared.{Compared}
use Rattle.acceptance.specs.Inner.Comparing.{starts, judged, compared}
use Rattle.acceptance.specs.Inner.Expected.{compare_rows, verdict, holding, expected}
use Rattle.acceptance.specs.Theorem.Compared.{shared_ended}
use Rattle.acceptance.specs.Theorem.Holding.{starts_length, all_true}

module _ (l : Bytes) (set budget : ℕ) (T : Tally) where
  abbrev N : ℕ
  N = settings l

  abbrev tests : List Row
  tests = compare_rows l set budget

  abbrev rows : ℕ → List Row
  rows n = shared_rows l set budget (starts 0 (n * 16)) T

  abbrev end : ℕ → Shared
  end n = Sharing.meant l set budget (starts 0 (n * 16))

  -- what is lent is made to measure
  measured : length T.outcomes ≡ N → length T.codes ≡ N → length T.steps ≡ N → exact N (starts 0 (N * 16)) T ≡ true
  unfolding exact
  measured o c t =
      let store = eq-eqb _ _ (starts_length 0 (N * 16)) in
      rw (store, eq-eqb (length T.outcomes) N o, eq-eqb (length T.codes) N c, eq-eqb (length T.steps) N t) refl

  pass : exact N (starts 0 (N * 16)) T ≡ true → NoneFails tests → NoneFails (rows N)
  unfolding compare_rows shared_rows set_rows
  pass e none =
      let both = none_each (check_rows l) _ none in
      none_both (check_rows l) _ both.0 (both.1.0, (both.1.1.0, (ap (λ u. not u) e, tt)))

  fewer : (n : ℕ) → NoneFails (rows n) → NoneFails tests
  unfolding compare_rows shared_rows set_rows
  fewer n none =
      let both = none_each (check_rows l) _ none in
      none_both (check_rows l) _ both.0 (both.1.0, (both.1.1.0, tt))

  checks : NoneFails tests → NoneFails (check_rows l)
  unfolding compare_rows
  checks none = (none_each (check_rows l) _ none).0

  refuse : {k p : ℕ} → NoneFails tests → judge tests (holding l set budget) ≡ refused k p → ⊥
  refuse {k} {p} none is =
      let told : answer (holding l set budget) ≡ refused k p = sym ((carried_out _ tests).1 none) ∙ is in
      let z : ◌≡◌ {A = ℕ} 0 1 = cc in
      omega arith

  carried_so : NoneFails (rows N) → Some (holding l set budget) ≡ compared N l set budget T
  unfolding holding ends_of
  carried_so none =
      let ran : SharedRuns (rows N) l set budget (starts 0 (N * 16)) T (numbers_of N (end N)) (tally_of N (end N)) (Ok (ends_of N (end N))) =
      record {
        answered = sym ((carried_out (ends_of N (end N)) (rows N)).1 none);
        store_is = sym (written_new (rows N) (numbers_of N (end N)) (starts 0 (N * 16)) none);
        tally_is = sym (written_new (rows N) (tally_of N (end N)) T none);
      } in
      shared_ended N refl ran refl (all_true refl ran)

  refused_so : (n : ℕ) → (NoneFails (rows n) → ⊥) → None ≡ compared n l set budget T
  unfolding compared
  refused_so n never = go (judge (rows n) (ends_of N (end n))) refl
    where
      go : (a : Answer Ends) → judge (rows n) (ends_of N (end n)) ≡ a
          → None ≡ judged n l set budget (judge (rows n) (ends_of N (end n))) (written (rows n) (numbers_of N (end n)) (starts 0 (n * 16)))
          (written (rows n) (tally_of N (end n)) T)
      go (answer e) is = absurd (never (answered _ (rows n) e is))
      go (refused k p) is = rw is refl

  pub always : (n : ℕ) → n ≡ written (check_rows l) N 0 → length T.outcomes ≡ n → length T.codes ≡ n → length T.steps ≡ n
      → compared n l set budget T ≡ expected l set budget
  unfolding expected
  always n few o c t = go (judge tests (holding l set budget)) refl
    where
      go : (a : Answer Compared) → judge tests (holding l set budget) ≡ a
          → compared n l set budget T ≡ verdict (judge tests (holding l set budget))
      go (answer h) is =
          let none : NoneFails tests = answered _ tests h is in
          let whole : n ≡ N = few ∙ written_new (check_rows l) N 0 (checks none) in
          let told : judge tests (holding l set budget) ≡ answer (holding l set budget) = (carried_out _ tests).1 none in
          let lent : exact N (starts 0 (N * 16)) T ≡ true = measured (o ∙ whole) (c ∙ whole) (t ∙ whole) in
          ap (λ k. compared k l set budget T) whole ∙ sym (carried_so (pass lent none)) ∙ sym (ap verdict told)
      go (refused k p) is =
          let never : NoneFails (rows n) → ⊥ = λ none. refuse (fewer n none) is in
          sym (refused_so n never) ∙ sym (ap verdict is)
