-- A text that is put sign by sign.
use mathlib.Core.Path.{◌≡◌, refl, sym, ap, ◌∙◌}
use mathlib.Core.Bool.{cond}
use mathlib.Core.List.{List, [], ◌∷◌}
use Prim.Native.Nat.{ℕ, ◌+◌, ◌≤◌, ◌<◌}
use native.Mathlib.Omega.{arith}
use lib.Dec.{eqb}
use lib.ListN.{length, get_or, take, length-append}
use Rattle.std.proofs.lemmas.List.{take_all, get_or_default}
use borrow.Author.Tests.{eqb-true}
use Rattle.image.specs.Bytes.{Bytes}
use Rattle.image.proofs.Theorem.Listed.{by_test}
use Rattle.text.specs.Inner.Puts.{Puts}
use Rattle.text.proofs.Putting.{then, same}
use Rattle.listing.specs.Inner.Spelling.{DOT, Parts, stands, spell}
use Rattle.listing.proofs.Theorem.Signs.{one_more, within}

pub begun : (p : Parts) {at : ℕ} {out : List ℕ} → at ≤ length out → Puts (spell p []) at out out at
unfolding spell
begun p h = record { fits = omega arith; next_is = omega arith; out_is = refl }

module _ (p : Parts) (signs : Bytes) where
  -- within the spelling a sign is the same with any default
  sign_text : (i : ℕ) → i < length signs → stands p (get_or signs i DOT) ≡ stands p (get_or signs i 0)
  sign_text i h = ap (stands p) (get_or_default signs i DOT 0 h)

  pub goes_on : (i : ℕ) {at end end' : ℕ} {out out₁ out₂ : List ℕ} → i < length signs → Puts (spell p (take i signs)) at out out₁ end
      → Puts (stands p (get_or signs i 0)) end out₁ out₂ end' → Puts (spell p (take (i + 1) signs)) at out out₂ end'
  goes_on i h u v = same (sym (one_more p signs i)) (then u (same (sym (sign_text i h)) v))

  pub ends : (i : ℕ) {at end : ℕ} {out out' : List ℕ} → length signs ≤ i → Puts (spell p (take i signs)) at out out' end → Puts (spell p signs) at out out' end
  ends i h u = same (ap (spell p) (take_all i signs h)) u

  -- there is room for the sign that comes next
  pub room : (i : ℕ) {at end space : ℕ} {out out' : List ℕ} → i < length signs → Puts (spell p (take i signs)) at out out' end
      → at + length (spell p signs) ≤ space → end + length (stands p (get_or signs i 0)) ≤ space
  room i h u fits =
      let next = length-append (spell p (take i signs)) (stands p (get_or signs i DOT)) in
      omega (arith, u.next_is, fits, within p signs (i + 1), ap length (one_more p signs i), next, ap length (sign_text i h))

-- a sign that stands for itself among others
pub alike : (key s : ℕ) (text : ℕ → Bytes) {other : Bytes} → text key ≡ key ∷ [] → other ≡ text s → cond (eqb s key) (key ∷ []) other ≡ text s
alike key s text {other} e h =
    by_test (eqb s key) (λ u. cond u (key ∷ []) other ≡ text s) (λ t. sym e ∙ ap text (sym (eqb-true s key t))) (λ f. h)
