-- The settings in which P holds, as a number: it has just those, so a set in which just those are found is it.
use mathlib.Core.Path.{◌≡◌, refl, sym, ◌∙◌, ap, ap₂}
use mathlib.Core.Bool.{Bool, true, false, ◌&&◌, ◌||◌, cond}
use Prim.Native.Nat.{ℕ, zero, suc, ◌+◌, ◌^◌, ◌≤◌, ◌<◌}
use native.Mathlib.Omega.{arith}
use native.Mathlib.Decide.{ℕ_discrete}
use native.Mathlib.Nat.{pow-suc}
use lib.Dec.{eqb, ltb}
use lib.Bits.{bit_or, or_shifted_r}
use lib.Pow.{pow_mono}
use borrow.Author.Tests.{ne_eqb, le-ltb}
use Rattle.sets.specs.declared.Set.{Set}
use Rattle.sets.specs.Member.{bit}
use Rattle.sets.specs.Same.{same_members}
use Rattle.sets.proofs.Laws.{bit_none, bit_of_or, bit_power}
use Rattle.imp.specs.Shared.{Settings}
use Rattle.shared.specs.SharedRun.{set_of}
use Rattle.shared.proofs.Found.{Found, below_next}

-- those of the first n settings are below 2 ^ n
set_of_lt : (n : ℕ) (P : Settings) → set_of n P < 2 ^ n
unfolding set_of
set_of_lt zero P = omega arith
set_of_lt (suc n) P = go (P n) (set_of_lt n P)
  where
    go : (u : Bool) → set_of n P < 2 ^ n → set_of n P + cond u (2 ^ n) 0 < 2 ^ suc n
    go true h = omega (arith, h, pow-suc 2 n)
    go false h = omega (arith, h, pow-suc 2 n)

-- one setting more, above all of m's
bit_above : (m n s : ℕ) → m < 2 ^ n → bit (m + 2 ^ n) s ≡ (bit m s || eqb s n)
bit_above m n s h =
    let sum : bit_or m (2 ^ n) ≡ m + 2 ^ n = ap (bit_or m) (omega arith) ∙ or_shifted_r 1 n m h ∙ omega arith in
    ap (λ k. bit k s) (sym sum) ∙ bit_of_or m (2 ^ n) s ∙ ap (λ u. bit m s || u) (bit_power n s)

-- ---- who is in it

both : (v : Bool) → v ≡ (v && true)
both true = refl
both false = refl

neither : (a v : Bool) → a ≡ (a || (v && false))
neither true v = refl
neither false true = refl
neither false false = refl

joined : (l e p : Bool) → ((l && p) || (e && p)) ≡ ((l || e) && p)
joined true true true = refl
joined true true false = refl
joined true false true = refl
joined true false false = refl
joined false e p = refl

-- setting n joins the settings of m if u
bit_joined : (m n s : ℕ) (u : Bool) → m < 2 ^ n → bit (m + cond u (2 ^ n) 0) s ≡ (bit m s || (eqb s n && u))
bit_joined m n s true h = bit_above m n s h ∙ ap (λ v. bit m s || v) (both (eqb s n))
bit_joined m n s false h = ap (λ k. bit k s) (omega arith) ∙ neither (bit m s) (eqb s n)

last : (P : Settings) (n s : ℕ) → (eqb s n && P n) ≡ (eqb s n && P s)
last P n s = go (ℕ_discrete s n)
  where
    go : Dec (s ≡ n) → (eqb s n && P n) ≡ (eqb s n && P s)
    go (yes p) = ap (λ t. eqb s n && P t) (sym p)
    go (no p) = rw (ne_eqb s n p)

bit_set_of : (n : ℕ) (P : Settings) (s : ℕ) → bit (set_of n P) s ≡ (ltb s n && P s)
unfolding set_of
bit_set_of zero P s = rw (bit_none s, le-ltb s 0 (omega arith))
bit_set_of (suc n) P s =
    bit_joined (set_of n P) n s (P n) (set_of_lt n P)
    ∙ ap₂ ◌||◌ (bit_set_of n P s) (last P n s)
    ∙ joined (ltb s n) (eqb s n) (P s)
    ∙ ap (λ u. u && P s) (below_next s n)

-- what is found of all settings is the set of them
pub found_set : {n : ℕ} {P : Settings} (found : Set) → n ≤ 64 → found.bits < 2 ^ 64 → Found n (λ s. true) P found.bits → found.bits ≡ set_of n P
found_set {n} {P} found few fits h =
    let below : set_of n P < 2 ^ 64 = omega (arith, set_of_lt n P, pow_mono few) in
    ap (λ (S : Set). S.bits) (same_members found (record { bits = set_of n P }) fits below (λ s. h.found_is s ∙ sym (bit_set_of n P s)))
