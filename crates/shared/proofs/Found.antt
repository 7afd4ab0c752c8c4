-- A set that is found setting by setting: before setting k it has the settings below k that are in S and pass a test P.
use mathlib.Core.Path.{◌≡◌, refl, sym, ◌∙◌, ap}
use mathlib.Core.Bool.{Bool, true, false, ◌&&◌, ◌||◌}
use Prim.Native.Nat.{ℕ, suc, ◌<◌}
use native.Mathlib.Decide.{ℕ_discrete, dec_lt}
use native.Mathlib.Omega.{arith}
use lib.Dec.{eqb, ltb}
use borrow.Author.Tests.{eq-eqb, ne_eqb, lt-ltb, le-ltb}
use Rattle.sets.specs.Member.{bit}
use Rattle.sets.specs.Digits.{digit_past}
use Rattle.imp.specs.Shared.{Settings, Below}

pub record Found (k : ℕ) (S P : Settings) (found : ℕ) : Type 0 where
  pub found_is : (t : ℕ) → bit found t ≡ ((S t && ltb t k) && P t)

-- ---- laws of booleans, and of the settings below k

none_below : (s p : Bool) → false ≡ ((s && false) && p)
none_below true p = refl
none_below false p = refl

one_more : (s l e p : Bool) → (((s && l) && p) || ((s && e) && p)) ≡ ((s && (l || e)) && p)
one_more false l e p = refl
one_more true false e p = refl
one_more true true e true = refl
one_more true true true false = refl
one_more true true false false = refl

all_below : (s l p : Bool) → (s ≡ true → l ≡ true) → ((s && l) && p) ≡ (s && p)
all_below true l p h = ap (λ u. u && p) (h refl)
all_below false l p h = refl

pub below_next : (t k : ℕ) → (ltb t k || eqb t k) ≡ ltb t (suc k)
below_next t k = go (dec_lt t k) (ℕ_discrete t k)
  where
    go : Dec (t < k) → Dec (t ≡ k) → (ltb t k || eqb t k) ≡ ltb t (suc k)
    go (yes h) d = rw (lt-ltb t k h, lt-ltb t (suc k) (omega arith))
    go (no h) (yes e) = rw (le-ltb t k (omega arith), eq-eqb t k e, lt-ltb t (suc k) (omega arith))
    go (no h) (no e) = rw (le-ltb t k (omega arith), ne_eqb t k e, le-ltb t (suc k) (omega arith))

-- ---- one setting joins those that are found, or does not

not_joined : (f e : Bool) → f ≡ (f || (e && false))
not_joined true e = refl
not_joined false true = refl
not_joined false false = refl

elsewhere : (f s p : Bool) → (f || false) ≡ (f || ((s && false) && p))
elsewhere f true p = refl
elsewhere f false p = refl

here : (f s p : Bool) → (f || (s && p)) ≡ (f || ((s && true) && p))
here f true p = refl
here f false p = refl

module _ (S P : Settings) (s found : ℕ) where
  asked : (t : ℕ) → (bit found t || (eqb t s && (S s && P s))) ≡ (bit found t || ((S t && eqb t s) && P t))
  asked t = go (ℕ_discrete t s)
    where
      go : Dec (t ≡ s) → (bit found t || (eqb t s && (S s && P s))) ≡ (bit found t || ((S t && eqb t s) && P t))
      go (yes e) = rw (e, eq-eqb s s refl) (here (bit found s) (S s) (P s))
      go (no e) = rw (ne_eqb t s e) (elsewhere (bit found t) (S t) (P t))

  pub found_no : (S s && P s) ≡ false → (t : ℕ) → bit found t ≡ (bit found t || ((S t && eqb t s) && P t))
  found_no h t = not_joined (bit found t) (eqb t s) ∙ ap (λ u. bit found t || (eqb t s && u)) (sym h) ∙ asked t

  pub found_yes : (found' : ℕ) → s < 64 → (S s && P s) ≡ true → ((t : ℕ) → bit found' t ≡ (bit found t || (eqb t s && ltb s 64)))
      → (t : ℕ) → bit found' t ≡ (bit found t || ((S t && eqb t s) && P t))
  found_yes found' h h' joined t = joined t ∙ ap (λ u. bit found t || (eqb t s && u)) (lt-ltb s 64 h ∙ sym h') ∙ asked t

-- ---- the set before the first setting, after one more, and after the last

pub found_none : {S P : Settings} → Found 0 S P 0
unfolding bit
found_none {S} {P} = record { found_is = λ t. rw (digit_past 0 0 t (omega arith) (omega arith), le-ltb t 0 (omega arith)) (none_below (S t) (P t)) }

pub found_next : {k found found' : ℕ} {S P : Settings} → Found k S P found
    → ((t : ℕ) → bit found' t ≡ (bit found t || ((S t && eqb t k) && P t))) → Found (suc k) S P found'
found_next {k} {S = S} {P = P} h next = record {
  found_is = λ t.
      next t
      ∙ ap (λ u. u || ((S t && eqb t k) && P t)) (h.found_is t)
      ∙ one_more (S t) (ltb t k) (eqb t k) (P t)
      ∙ ap (λ u. (S t && u) && P t) (below_next t k);
}

pub found_all : {N found : ℕ} {S P : Settings} → Below N S → Found N S P found → (t : ℕ) → bit found t ≡ (S t && P t)
found_all {N} {S = S} {P = P} below h t = h.found_is t ∙ all_below (S t) (ltb t N) (P t) (λ e. lt-ltb t N (below t e))
