-- A sign of a condition: what it stands for.
use mathlib.Core.Path.{◌≡◌, refl, sym, ap, subst, ◌∙◌}
use mathlib.Core.Bool.{true, cond}
use mathlib.Core.List.{[]}
use Prim.Native.Nat.{ℕ, ◌+◌, ◌*◌, ◌/◌, ◌%◌, ◌<◌}
use native.Mathlib.Omega.{arith}
use lib.Dec.{eqb}
use lib.IntN.{pos}
use lib.ListN.{length, get_or, take}
use Rattle.std.proofs.lemmas.List.{get_or_default}
use borrow.Author.Tests.{eqb-true, ne_eqb}
use Rattle.image.specs.declared.records.ConditionRecord.{ConditionRecord}
use Rattle.image.specs.Bytes.{Bytes}
use Rattle.image.specs.Records.{header, condition_record}
use Rattle.image.specs.Layout.{condition_layout}
use Rattle.image.specs.Rows.{condition_fits}
use Rattle.image.specs.Tree.{condition}
use Rattle.image.proofs.Theorem.ConditionHeld.{known, kind_below, left_below, right_below}
use Rattle.image.proofs.Theorem.Listed.{by_test}
use Rattle.written.specs.Lister.{listedᶜ}
use Rattle.text.specs.Inner.Puts.{Puts}
use Rattle.listing.specs.Inner.Spelling.{condition_spelling, DOT, plainly, stands, spell}
use Rattle.listing.specs.Inner.Texts.{condition_text, named, condition_parts}
use Rattle.listing.specs.Inner.Listing.{condition_asks, condition_reach, ConditionListing, ConditionSigning}
use Rattle.listing.proofs.Theorem.Signs.{condition_asked}
use Rattle.listing.proofs.Theorem.Image.{condition_spelled_at}
use Rattle.listing.proofs.Signs.{alike, room}

-- ---- the names that a sign asks for

module _ (F k : ℕ) (r : ConditionRecord) (fits : condition_fits F k r ≡ true) (sign : ℕ) (asked : condition_asks r.kind sign ≡ true) where
  left_used : sign ≡ 65 → eqb (condition_layout r.kind / 8 % 8) 1 ≡ true
  unfolding condition_asks
  left_used e = subst (λ s. condition_asks r.kind s ≡ true) e asked

  right_used : sign ≡ 66 → eqb (condition_layout r.kind % 8) 1 ≡ true
  unfolding condition_asks
  right_used e = subst (λ s. condition_asks r.kind s ≡ true) e asked

  left_lower : sign ≡ 65 → r.left < k
  left_lower e = left_below F k r fits r.kind refl (eqb-true (condition_layout r.kind / 8 % 8) 1 (left_used e))

  right_lower : sign ≡ 66 → r.right < k
  right_lower e = right_below F k r fits r.kind refl (eqb-true (condition_layout r.kind % 8) 1 (right_used e))

  reach_low : condition_reach r sign < 2 * k + 2
  unfolding condition_reach
  reach_low =
      by_test (eqb sign 65) (λ u. cond u (2 * r.left + 3) (cond (eqb sign 66) (2 * r.right + 3) 0) < 2 * k + 2)
      (λ t. omega (arith, left_lower (eqb-true sign 65 t)))
      (λ f. by_test (eqb sign 66) (λ u. cond u (2 * r.right + 3) 0 < 2 * k + 2) (λ t. omega (arith, right_lower (eqb-true sign 66 t))) (λ f. omega arith))

-- ---- a sign that stands for condition x

pub record Stands (l : Bytes) (r : ConditionRecord) (sign x : ℕ) : Type 0 where
  pub text_is : stands (condition_parts (condition l) r) sign ≡ condition_text l x
  pub is_below : x < (header l).conditions
  pub reach_is : condition_reach r sign ≡ 2 * x + 3

module _ {l : Bytes} {r : ConditionRecord} {sign at space : ℕ} (pre : ConditionSigning l r sign at space) where
  fits_in : condition_fits (header l).options pre.k r ≡ true
  fits_in = subst (λ q. condition_fits (header l).options pre.k q ≡ true) (sym pre.is_record) (pre.accepted.conditions_fit pre.k pre.condition_below)

  pub left_stands : sign ≡ 65 → Stands l r sign r.left
  unfolding stands condition_parts named condition_text condition_reach
  left_stands e = record {
    text_is = ap (stands (condition_parts (condition l) r)) e ∙ ap (λ u. cond u (listedᶜ (condition l r.left)) []) (left_used (header l).options pre.k r fits_in sign pre.asked e);
    is_below = omega (arith, left_lower (header l).options pre.k r fits_in sign pre.asked e, pre.condition_below);
    reach_is = ap (condition_reach r) e;
  }

  pub right_stands : sign ≡ 66 → Stands l r sign r.right
  unfolding stands condition_parts named condition_text condition_reach
  right_stands e = record {
    text_is = ap (stands (condition_parts (condition l) r)) e ∙ ap (λ u. cond u (listedᶜ (condition l r.right)) []) (right_used (header l).options pre.k r fits_in sign pre.asked e);
    is_below = omega (arith, right_lower (header l).options pre.k r fits_in sign pre.asked e, pre.condition_below);
    reach_is = ap (condition_reach r) e;
  }

  -- the named condition may be listed in its place
  pub listing : {x : ℕ} → Stands l r sign x → ConditionListing l x at space
  listing s = record { accepted = pre.accepted; condition_below = s.is_below; fits = omega (arith, pre.fits, ap length s.text_is) }

-- any other sign
pub otherwise : (l : Bytes) (r : ConditionRecord) (s : ℕ) → (s ≡ 65 → ⊥) → (s ≡ 66 → ⊥)
    → stands (condition_parts (condition l) r) s ≡ plainly r.option (pos 0) true 0 s
unfolding stands condition_parts plainly
otherwise l r s a b =
    let text = plainly r.option (pos 0) true 0 in
    rw (ne_eqb s 65 a, ne_eqb s 66 b) (alike 67 s text refl (alike 88 s text refl (alike 89 s text refl (alike 75 s text refl refl))))

-- ---- a condition as it was read

pub kind_known : {l : Bytes} {k at space : ℕ} {r : ConditionRecord} → ConditionListing l k at space → r ≡ condition_record l k → condition_layout r.kind ≡ 0 → ⊥
kind_known {l} {k} pre is = rw is (known (header l).options k (condition_record l k) (pre.accepted.conditions_fit k pre.condition_below))

module _ {l signs : Bytes} {k at space : ℕ} {r : ConditionRecord} (pre : ConditionListing l k at space)
    (is : r ≡ condition_record l k) (are : signs ≡ condition_spelling r.kind) where
  pub spelled : spell (condition_parts (condition l) r) signs ≡ condition_text l k
  spelled = rw (are, is) (sym (condition_spelled_at l pre.accepted k pre.condition_below))

  fits_here : condition_fits (header l).options k r ≡ true
  fits_here = subst (λ q. condition_fits (header l).options k q ≡ true) (sym is) (pre.accepted.conditions_fit k pre.condition_below)

  asked_here : (i : ℕ) → i < length signs → condition_asks r.kind (get_or signs i 0) ≡ true
  asked_here i h =
      ap (condition_asks r.kind) (sym (get_or_default signs i DOT 0 h)) ∙ rw are (condition_asked r.kind (kind_below (header l).options k r fits_here) i)

  pub falls : (i : ℕ) → i < length signs → condition_reach r (get_or signs i 0) < 2 * k + 2
  falls i h = reach_low (header l).options k r fits_here (get_or signs i 0) (asked_here i h)

  -- the sign that comes next may be put
  pub signing : (i : ℕ) {end : ℕ} {out out' : Bytes} → i < length signs → length out' ≡ space
      → Puts (spell (condition_parts (condition l) r) (take i signs)) at out out' end → ConditionSigning l r (get_or signs i 0) end (length out')
  signing i h long put = record {
    accepted = pre.accepted;
    k = k;
    is_record = is;
    condition_below = pre.condition_below;
    asked = asked_here i h;
    fits = room (condition_parts (condition l) r) signs i h put (omega (arith, pre.fits, long, ap length spelled));
  }
