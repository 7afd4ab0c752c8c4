-- "A number is given exactly when its condition holds and no earlier test fails; in every other case the call is carried out", of any table.
use Rattle.std.specs.Prelude.{◌≡◌, Bool, cond, ◌↔◌, ℕ}
use Rattle.std.proofs.Math.Path.{refl, ap}
use Rattle.std.proofs.Common.{sym, ◌∙◌, arith}
use Rattle.std.proofs.Math.Bool.{true, false}
use mathlib.Core.List.{List, [], ◌∷◌, ◌++◌}
use Rattle.image.specs.Rows.{Row, Answer, refused, answer, judge, written, NoneFails, Given}

-- ---- one row

module _ {A : Type 0} (r : Row) (rows : List Row) (x : A) where
  pub judge_fails : r.fails ≡ true → judge (r ∷ rows) x ≡ refused r.number r.place
  unfolding judge
  judge_fails fails = rw fails

  pub judge_passes : r.fails ≡ false → judge (r ∷ rows) x ≡ judge rows x
  unfolding judge
  judge_passes passes = rw passes

-- ---- the whole table

module _ {A : Type 0} (x : A) where
  never : {y : A} {n p : ℕ} → answer y ≡ refused n p → ⊥
  never e = let z : ◌≡◌ {A = ℕ} 0 1 = cc in omega arith

  given : (rows : List Row) (n p : ℕ) → judge rows x ≡ refused n p → Given rows n p
  unfolding judge
  given [] n p e = absurd (never e)
  given (r ∷ rows) n p e = go r.fails refl (given rows n p)
    where
      go : (b : Bool) → r.fails ≡ b → (judge rows x ≡ refused n p → Given rows n p) → Given (r ∷ rows) n p
      go true fails below =
          let this : refused r.number r.place ≡ refused n p = rw fails at e in
          record { earlier = []; this = r; later = rows; in_order = refl; none_earlier = tt; fails = fails; number_is = cc; place_is = cc }
      go false passes below =
          let g : Given rows n p = below (rw passes at e) in
          record {
            earlier = r ∷ g.earlier;
            this = g.this;
            later = g.later;
            in_order = ap (λ (l : List Row). r ∷ l) g.in_order;
            none_earlier = (passes, g.none_earlier);
            fails = g.fails;
            number_is = g.number_is;
            place_is = g.place_is;
          }

  passed : (earlier rows : List Row) → NoneFails earlier → judge (earlier ++ rows) x ≡ judge rows x
  passed [] rows none = refl
  passed (r ∷ earlier) rows none = judge_passes r (earlier ++ rows) x none.0 ∙ passed earlier rows none.1

  pub refused_given : (rows : List Row) (n p : ℕ) → (judge rows x ≡ refused n p) ↔ Given rows n p
  refused_given rows n p = (given rows n p, back)
    where
      back : Given rows n p → judge rows x ≡ refused n p
      back g =
          let at-this : judge rows x ≡ judge (g.this ∷ g.later) x = rw g.in_order (passed g.earlier (g.this ∷ g.later) g.none_earlier) in
          at-this ∙ judge_fails g.this g.later x g.fails ∙ rw (g.number_is, g.place_is)

  pub answered : (rows : List Row) (y : A) → judge rows x ≡ answer y → NoneFails rows
  unfolding judge
  answered [] y e = tt
  answered (r ∷ rows) y e = go r.fails refl (answered rows y)
    where
      go : (b : Bool) → r.fails ≡ b → (judge rows x ≡ answer y → NoneFails rows) → NoneFails (r ∷ rows)
      go true fails below =
          let this : refused r.number r.place ≡ answer y = rw fails at e in
          absurd (never (sym this))
      go false passes below = (passes, below (rw passes at e))

  pub carried_out : (rows : List Row) → (judge rows x ≡ answer x) ↔ NoneFails rows
  unfolding judge
  carried_out rows = (answered rows x, back rows)
    where
      back : (rows' : List Row) → NoneFails rows' → judge rows' x ≡ answer x
      back [] none = refl
      back (r ∷ rows') none = judge_passes r rows' x none.0 ∙ back rows' none.1

-- ---- "A refusal writes nothing."

-- what is written, by what is answered
abbrev pub by_answer : {A B : Type 0} → Answer A → B → B → B
by_answer (refused n p) new old = old
by_answer (answer x) new old = new

pub written_as_judged : {A B : Type 0} (rows : List Row) (x : A) (new old : B) → written rows new old ≡ by_answer (judge rows x) new old
unfolding judge written
written_as_judged [] x new old = refl
written_as_judged (r ∷ rows) x new old = go r.fails (written_as_judged rows x new old)
  where
    go : (b : Bool) → written rows new old ≡ by_answer (judge rows x) new old
        → cond b old (written rows new old) ≡ by_answer (cond b (refused r.number r.place) (judge rows x)) new old
    go true below = refl
    go false below = below
