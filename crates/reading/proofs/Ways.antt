-- Ways from cursor to cursor, and refusals: put together.
use mathlib.Core.Path.{◌≡◌, refl, sym, ◌∙◌, ap, subst}
use Rattle.std.specs.Prelude.{Result, Err}
use Rattle.std.specs.Result.{IsErrAnd}
use Rattle.std.proofs.lemmas.Result.{err_from_is_err_and}
use native.Mathlib.Omega.{arith}
use Rattle.image.specs.declared.refusals.Refusal.{Refusal}
use Rattle.image.specs.Bytes.{Bytes}
use Rattle.written.specs.Machine.{Stack}
use Rattle.reading.specs.declared.cursor.Cursor.{Cursor}
use Rattle.reading.specs.Inner.Way.{Says, Good, Way, Refuses}

-- what the exit of a `?` returns
pub refused_is : {A : Type 0} {e : Refusal} (r : Result A Refusal) → IsErrAnd r (λ y. y ≡ e) → r ≡ Err e
refused_is r h = let p = err_from_is_err_and r h in p.1 ∙ ap Err p.2

-- one way behind another
pub then : {text : Bytes} {c d e : Cursor} {A B C : Stack} → Way text c d A B → Way text d e B C → Way text c e A C
then p q = record {
  forth = omega (arith, p.forth, q.forth);
  good = q.good;
  goes = λ w h.
      let x = p.goes w h in
      let y = q.goes x.0 x.1 in
      (y.0, y.1, x.2 ∙ y.2);
}

-- what is refused behind a way is refused before it
pub then_refused : {text : Bytes} {c d : Cursor} {A B : Stack} (e : Refusal) → Way text c d A B → Refuses text d B e → Refuses text c A e
then_refused e p q = record {
  forth = omega (arith, p.forth, q.forth);
  inside = q.inside;
  says = λ w h. let x = p.goes w h in subst (Says e) (sym x.2) (q.says x.0 x.1);
}

-- from a cursor to itself
pub stays : {text : Bytes} {c : Cursor} (A : Stack) → Good text c → Way text c c A A
stays A g = record { forth = omega arith; good = g; goes = λ w h. (w, h, refl) }
