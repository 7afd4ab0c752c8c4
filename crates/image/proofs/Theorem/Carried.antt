-- Tables. A call that was carried out: no row failed, so it answered what it was called for and wrote what it may write. A refusal: it is one of the table's
-- numbers, and two tables that begin alike refuse alike there.
use Rattle.std.proofs.Math.Path.{◌≡◌, refl}
use Rattle.std.proofs.Common.{sym, ◌∙◌, ap, arith, eq-eqb}
use Rattle.std.specs.Prelude.{Bool, ◌||◌, ℕ, eqb}
use Rattle.std.proofs.Math.Bool.{true, false}
use mathlib.Core.List.{List, [], ◌∷◌, ◌++◌}
use Rattle.image.specs.Rows.{Row, Answer, refused, answer, judge, written, NoneFails, numbers}
use Rattle.image.proofs.Theorem.Given.{refused_given, answered, carried_out, by_answer, written_as_judged}

-- a table and its continuation
pub none_each : (rows more : List Row) → NoneFails (rows ++ more) → NoneFails rows × NoneFails more
none_each [] more none = (tt, none)
none_each (r ∷ rows) more none =
    let rest = none_each rows more none.1 in
    ((none.0, rest.0), rest.1)

pub none_both : (rows more : List Row) → NoneFails rows → NoneFails more → NoneFails (rows ++ more)
none_both [] more none later = later
none_both (r ∷ rows) more none later = (none.0, none_both rows more none.1 later)

pub carried : {A : Type 0} (rows : List Row) (x y : A) → answer y ≡ judge rows x → NoneFails rows × (y ≡ x)
carried rows x y e =
    let none : NoneFails rows = answered x rows y (sym e) in
    let same : answer y ≡ answer x = e ∙ (carried_out x rows).1 none in
    (none, cc)

pub written_new : {A : Type 0} (rows : List Row) (new old : A) → NoneFails rows → written rows new old ≡ new
written_new rows new old none = written_as_judged rows new new old ∙ ap (λ a. by_answer a new old) ((carried_out new rows).1 none)

-- whatever a table is read for, it carries out alike and refuses alike
module _ {A B : Type 0} (rows : List Row) (x : A) where
  pub carried_again : {y : A} (z : B) → answer y ≡ judge rows x → judge rows z ≡ answer z
  carried_again {y} z e = (carried_out z rows).1 (carried rows x y e).0

  pub refused_again : {n p : ℕ} (z : B) → refused n p ≡ judge rows x → judge rows z ≡ refused n p
  refused_again {n} {p} z e = (refused_given z rows n p).1 ((refused_given x rows n p).0 (sym e))

-- ---- refusals

never : {A X : Type 0} {x : A} {n p : ℕ} → answer x ≡ refused n p → X
never e = let z : ◌≡◌ {A = ℕ} 0 1 = cc in absurd (omega arith)

-- no row of `more` fails where none of `first` does: then what the table refuses it refuses by `first`, and so does any table that begins with `first`
module _ {A B : Type 0} (x : A) (y : B) (more others : List Row) (n p : ℕ) where
  pub refused_alike : (first : List Row) → (NoneFails first → NoneFails more) → judge (first ++ more) y ≡ refused n p → judge (first ++ others) x ≡ refused n p
  unfolding judge
  refused_alike [] none e = never (sym ((carried_out y more).1 (none tt)) ∙ e)
  refused_alike (r ∷ first) none e = go r.fails refl (refused_alike first)
    where
      go : (u : Bool) → r.fails ≡ u → ((NoneFails first → NoneFails more) → judge (first ++ more) y ≡ refused n p → judge (first ++ others) x ≡ refused n p)
          → judge (r ∷ (first ++ others)) x ≡ refused n p
      go true fails below =
          let this : ◌≡◌ {A = Answer B} (refused r.number r.place) (refused n p) = rw fails at e in
          let number_is : r.number ≡ n = cc in
          let place_is : r.place ≡ p = cc in
          rw (fails, number_is, place_is)
      go false passes below = rw passes (below (λ rest. none (passes, rest)) (rw passes at e))

-- n is one of the numbers
abbrev pub among : ℕ → List ℕ → Bool
among n [] = false
among n (m ∷ ms) = eqb m n || among n ms

pub is_among : {A : Type 0} (rows : List Row) (x : A) (n p : ℕ) → judge rows x ≡ refused n p → among n (numbers rows) ≡ true
unfolding judge
is_among [] x n p e = never e
is_among (r ∷ rows) x n p e = go r.fails refl (is_among rows x n p)
  where
    or_true : (u v : Bool) → v ≡ true → (u || v) ≡ true
    or_true true v h = refl
    or_true false v h = h

    go : (u : Bool) → r.fails ≡ u → (judge rows x ≡ refused n p → among n (numbers rows) ≡ true) → among n (numbers (r ∷ rows)) ≡ true
    go true fails below =
        let this : refused r.number r.place ≡ refused n p = rw fails at e in
        let number_is : r.number ≡ n = cc in
        rw (eq-eqb r.number n number_is)
    go false passes below = or_true (eqb r.number n) (among n (numbers rows)) (below (rw passes at e))
