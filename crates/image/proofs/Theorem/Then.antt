-- A table continued: where the check accepts the later rows decide, and where it refuses its refusal stands.
use Rattle.std.proofs.Math.Path.{◌≡◌, refl}
use Rattle.std.proofs.Common.{sym, arith}
use Rattle.std.specs.Prelude.{Bool, ℕ}
use Rattle.std.proofs.Math.Bool.{true, false}
use mathlib.Core.List.{List, [], ◌∷◌, ◌++◌}
use Rattle.image.specs.Rows.{Row, Answer, refused, answer, judge, written}

not_answered : {A X : Type 0} {y : A} {n p : ℕ} → answer y ≡ refused n p → X
not_answered e = let z : ◌≡◌ {A = ℕ} 0 1 = cc in absurd (omega arith)

module _ {A B : Type 0} (x : A) where
  pub judge_then : (rows more : List Row) (y : B) → judge rows x ≡ answer x → judge (rows ++ more) y ≡ judge more y
  unfolding judge
  judge_then [] more y e = refl
  judge_then (r ∷ rows) more y e = go r.fails refl (judge_then rows more y)
    where
      go : (u : Bool) → r.fails ≡ u → (judge rows x ≡ answer x → judge (rows ++ more) y ≡ judge more y) → judge (r ∷ (rows ++ more)) y ≡ judge more y
      go true f ih = not_answered (sym (rw f at e))
      go false f ih = rw f (ih (rw f at e))

  pub judge_stops : (rows more : List Row) (y : B) (n p : ℕ) → judge rows x ≡ refused n p → judge (rows ++ more) y ≡ refused n p
  unfolding judge
  judge_stops [] more y n p e = not_answered e
  judge_stops (r ∷ rows) more y n p e = go r.fails refl (judge_stops rows more y n p)
    where
      go : (u : Bool) → r.fails ≡ u → (judge rows x ≡ refused n p → judge (rows ++ more) y ≡ refused n p) → judge (r ∷ (rows ++ more)) y ≡ refused n p
      go true f ih =
          let this : ◌≡◌ {A = Answer A} (refused r.number r.place) (refused n p) = rw f at e in
          let a : r.number ≡ n = cc in
          let b : r.place ≡ p = cc in
          rw (f, a, b)
      go false f ih = rw f (ih (rw f at e))

  pub written_then : (rows more : List Row) (new old : B) → judge rows x ≡ answer x → written (rows ++ more) new old ≡ written more new old
  unfolding judge written
  written_then [] more new old e = refl
  written_then (r ∷ rows) more new old e = go r.fails refl (written_then rows more new old)
    where
      go : (u : Bool) → r.fails ≡ u → (judge rows x ≡ answer x → written (rows ++ more) new old ≡ written more new old)
          → written (r ∷ (rows ++ more)) new old ≡ written more new old
      go true f ih = not_answered (sym (rw f at e))
      go false f ih = rw f (ih (rw f at e))

  pub written_stops : (rows more : List Row) (new old : B) (n p : ℕ) → judge rows x ≡ refused n p → written (rows ++ more) new old ≡ old
  unfolding judge written
  written_stops [] more new old n p e = not_answered e
  written_stops (r ∷ rows) more new old n p e = go r.fails refl (written_stops rows more new old n p)
    where
      go : (u : Bool) → r.fails ≡ u → (judge rows x ≡ refused n p → written (rows ++ more) new old ≡ old) → written (r ∷ (rows ++ more)) new old ≡ old
      go true f ih = rw f
      go false f ih = rw f (ih (rw f at e))
