-- Texts written one behind the other are one text.
use mathlib.Core.Path.{◌≡◌, refl, sym, ◌∙◌, ap}
use mathlib.Core.List.{List, [], ◌∷◌, ◌++◌}
use Prim.Native.Nat.{ℕ, ◌+◌, ◌-◌, ◌≤◌, ◌<◌}
use native.Mathlib.Omega.{arith}
use lib.ListN.{length, set, take, drop, length-append}
use lib.Seq.{sets, sets-eq, length-sets, take-append_seam}
use borrow.Rule.Slice.PartMut.{put_mid}
use Rattle.std.proofs.lemmas.List.{drop-drop, append_assoc}
use Rattle.image.proofs.Stores.{sets_app}
use Rattle.text.specs.Inner.Puts.{Puts}

pub then : {u v : List ℕ} {at mid end : ℕ} {out out₁ out₂ : List ℕ} → Puts u at out out₁ mid → Puts v mid out₁ out₂ end → Puts (u ++ v) at out out₂ end
then {u} {v} {at} {mid} {end} {out} {out₁} {out₂} p q = record {
  fits = omega (arith, p.next_is, q.fits, length-append u v, ap length p.out_is, length-sets out at u);
  next_is = omega (arith, p.next_is, q.next_is, length-append u v);
  out_is =
      q.out_is
      ∙ ap (λ o. sets o mid v) p.out_is
      ∙ ap (λ k. sets (sets out at u) k v) p.next_is
      ∙ sym (sets_app u v out at);
}

-- a single byte
pub byte : (x at : ℕ) (out : List ℕ) → at < length out → Puts (x ∷ []) at out (set out at x) (at + 1)
byte x at out h = record { fits = omega arith; next_is = refl; out_is = refl }

-- the same text, written elsewhere as another
pub same : {u v : List ℕ} {at end : ℕ} {out out' : List ℕ} → u ≡ v → Puts u at out out' end → Puts v at out out' end
same {u} {v} {at} {end} {out} {out'} e p = record {
  fits = omega (arith, p.fits, ap length e);
  next_is = p.next_is ∙ ap (λ t. at + length t) e;
  out_is = p.out_is ∙ ap (sets out at) e;
}

-- what was written from the start on is found there
pub front : (text out : List ℕ) {out' : List ℕ} {end : ℕ} → Puts text 0 out out' end → take end out' ≡ text
front text out {out'} {end} p =
    let all : end ≡ length text = omega (arith, p.next_is) in
    ap (take end) (p.out_is ∙ sets-eq text out 0 p.fits)
    ∙ ap (λ k. take k (text ++ drop (0 + length text) out)) all
    ∙ take-append_seam text (drop (0 + length text) out)

-- a part of `out` that becomes the text
pub part : (text out : List ℕ) (at : ℕ) → at + length text ≤ length out → {ys : List ℕ} → ys ≡ text
    → put_mid at (at + length text - at) out ys ≡ sets out at text
part text out at h e =
    ap (put_mid at (at + length text - at) out) e
    ∙ ap (λ k. take at out ++ (text ++ drop k (drop at out))) (omega arith)
    ∙ ap (λ l. take at out ++ (text ++ l)) (drop-drop (length text) at out)
    ∙ sym (append_assoc (take at out) text (drop (at + length text) out))
    ∙ sym (sets-eq text out at h)
